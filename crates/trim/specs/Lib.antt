-- Trim: which part of a path's length is visible.
pub mod Trim
pub mod Ranges
