-- What the proofs of `join` cite: each way out of a function, which rows are joined, that their drawing is a sound command list, what of the rows and items it reads, its enlargement, and closed cases.
pub mod Ways
pub mod Joined
pub mod Sound
pub mod Single
pub mod Read
pub mod Enlarged
mod Cases
pub mod Enough
