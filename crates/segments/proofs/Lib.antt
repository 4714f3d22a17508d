-- What the proofs of `segments` cite.
pub mod Ways
pub mod Tally
