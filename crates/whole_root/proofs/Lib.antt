-- What the proofs of `whole_root` cite.
pub mod Halved
pub mod Squares
pub mod Ways
