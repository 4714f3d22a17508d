-- What the proofs of `angle` cite.
pub mod Halves
pub mod Reduced
pub mod Entries
pub mod Directions
