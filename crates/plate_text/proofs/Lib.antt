-- What the proofs of `plate_text` cite, and closed cases.
pub mod Ways
mod Cases
