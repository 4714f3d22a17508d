-- What the proofs of `polyline` cite, and what its callers cite.
pub mod Differences
pub mod Callers
