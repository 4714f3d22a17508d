-- Trimmed paths: the visible ranges, and the lengths at which a path is cut.
pub mod Cuts
pub mod Calls
pub mod Answers
pub mod Enlarged
