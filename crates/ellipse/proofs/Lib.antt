-- What the proofs of `ellipse` cite, what is known of its commands, and closed cases.
pub mod Ways
pub mod Each
pub mod Sound
pub mod Single
pub mod Enlarged
pub mod Cases
