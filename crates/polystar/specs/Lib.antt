-- Polystars: which numbers make one, and its points.
pub mod Marks
pub mod Polystar
pub mod Points
