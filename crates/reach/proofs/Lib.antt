-- What the proofs of `reach` cite, the laws that specs/Stops.antt states, enlargement, and closed cases.
pub mod Rule
pub mod Prefix
pub mod Fewest
pub mod Walk
pub mod Ways
pub mod Stops
pub mod Enlarged
mod Cases
