-- What the proofs of `cut` cite, the laws of enlarged paths, and closed cases.
pub mod Ways
pub mod Enlarged
pub mod Single
mod Cases
