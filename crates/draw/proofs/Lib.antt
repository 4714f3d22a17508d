-- What the proofs of `draw` cite.
pub mod Ways
pub mod ByKind
pub mod Sources
pub mod Sound
pub mod Single
pub mod Enlarged
pub mod Read
