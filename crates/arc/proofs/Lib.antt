-- What the functions of this crate owe.
pub mod End
pub mod Points
pub mod Ways
