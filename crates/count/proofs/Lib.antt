-- What the proofs of `count` cite.
pub mod Ways
mod Cases
