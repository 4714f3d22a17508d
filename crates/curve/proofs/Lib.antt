-- What the proofs of `curve` cite, and closed cases.
pub mod Chords
pub mod Rising
pub mod Lengths
pub mod Ways
pub mod Enlarged
mod Cases
