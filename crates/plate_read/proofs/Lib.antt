-- The laws of what a text gives, and what the proofs of `plate_read` cite.
pub mod Fields
pub mod Lines
pub mod Texts
pub mod Fills
pub mod Cases
