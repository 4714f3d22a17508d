-- A walk down a command list, what the proofs of `judge` cite, what its definitions say of written commands, and their enlargement.
pub mod Walk
pub mod Ways
pub mod Lists
pub mod Parts
pub mod Enlarged
