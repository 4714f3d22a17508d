-- The length of a path.
pub mod Length
