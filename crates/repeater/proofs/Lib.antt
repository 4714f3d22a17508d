-- What the proofs of `repeater` cite.
pub mod Ways
mod Part
mod Upright
mod Quickly
pub mod Enlarged
pub mod Moved
pub mod Single
mod Cases
