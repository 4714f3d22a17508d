-- The path of a vertex list.
pub mod Path
pub mod Between
