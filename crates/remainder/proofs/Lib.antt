-- What the proofs of `remainder` cite.
pub mod Turn
pub mod Ways
