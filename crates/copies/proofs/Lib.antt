-- What the proofs of `copies` cite, their enlargement, and closed cases.
pub mod Ways
pub mod Enlarged
mod Cases
