-- What the proofs of `measure` cite, the laws of lengths, and closed cases.
pub mod Enlarged
pub mod Rising
pub mod Single
mod Cases
