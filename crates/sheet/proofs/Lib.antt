-- What the proofs of a writer cite.
pub mod Written
