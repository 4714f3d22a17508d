-- How many numbers a row has.
pub mod Entries
