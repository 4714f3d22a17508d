-- What the proofs of `float` cite.
pub mod Ways
