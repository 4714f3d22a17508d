-- What the proofs of `plate_print` cite, the laws of printed text, and closed cases.
pub mod Bytes
pub mod Columns
pub mod Lines
pub mod Ways
mod Cases
