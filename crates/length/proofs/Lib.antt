-- What the proofs of `length` cite, and closed cases.
pub mod Walks
pub mod Ways
pub mod Enlarged
mod Cases
