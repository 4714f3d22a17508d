-- The laws of the path of a vertex list.
pub mod Paths
pub mod Enlarged
pub mod Multiplied
pub mod Counts
pub mod Sound
pub mod Accepted
pub mod Single
pub mod Segment
pub mod Along
