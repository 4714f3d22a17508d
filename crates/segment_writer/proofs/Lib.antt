-- What the proofs of the segment writer cite.
pub mod Ways
pub mod Carried
pub mod Outlined
