-- What a shape draws, and what a drawing does.
pub mod Shape
pub mod Drawings
