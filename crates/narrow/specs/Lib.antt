-- A number kept to 24 digits.
pub mod Kept
