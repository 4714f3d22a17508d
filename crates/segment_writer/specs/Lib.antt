-- What is written where more is to follow.
pub mod Followed
