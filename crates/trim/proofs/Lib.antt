-- What the proofs of `trim` cite.
pub mod Inside
pub mod Grid
mod Cases
