-- What a merge answers, and what its rows draw one by one.
pub mod Merge
pub mod Sources
pub mod Joined
pub mod Enough
