-- What the proofs of `star_path` cite.
pub mod Along
