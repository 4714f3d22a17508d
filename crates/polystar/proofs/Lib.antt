-- What the proofs of `polystar` cite.
pub mod Turns
pub mod Ways
pub mod Single
