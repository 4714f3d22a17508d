-- The laws of outcomes, of lists of commands, and of the buffers that they are written to.
pub mod Outcomes
pub mod Verdicts
pub mod Buffers
pub mod Lists
pub mod Enlarged
pub mod Bounds
pub mod Each
