-- What the proofs of `root` cite.
pub mod Midpoints
pub mod Quick
pub mod Ways
