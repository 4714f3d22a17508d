-- What the proofs of `merge` cite: the rule on rows, and each way out of a function. What a decision reads and has passed, and closed cases.
pub mod Rest
pub mod Flat
pub mod Ways
pub mod Alike
pub mod Passed
mod Cases
