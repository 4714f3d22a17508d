-- Repeaters: copies of a path, each with its own place and strength.
pub mod Repeater
pub mod Upright
