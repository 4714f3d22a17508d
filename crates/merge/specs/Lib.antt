-- The merge rule on nested items, the order of its checks, and the same rule on flat rows.
pub mod Rule
pub mod Flat
pub mod Decision
