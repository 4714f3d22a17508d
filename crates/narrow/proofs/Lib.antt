-- What the proof of `narrow` cites.
pub mod Field
pub mod Steps
pub mod Result
pub mod Ways
mod Cases
