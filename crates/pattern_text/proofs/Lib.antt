-- The laws of lines that are answered, which the proofs of `pattern_text` cite.
pub mod Ways
