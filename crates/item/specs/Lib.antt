-- The kinds of items, item rows and their rules.
pub mod Kinds
pub mod Rows
