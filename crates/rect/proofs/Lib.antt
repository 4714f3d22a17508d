-- What the proofs of `rect` cite.
pub mod Box
pub mod Tangent
pub mod Enlarged
pub mod Each
pub mod Sound
pub mod Single
pub mod Ways
