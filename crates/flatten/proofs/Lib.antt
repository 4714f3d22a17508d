-- The laws that the proofs of `flatten` share.
pub mod Exact
pub mod Chain
pub mod Steps
pub mod Eighths
pub mod Near
pub mod Ways
