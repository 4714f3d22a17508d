-- A box, and the path of a rectangle in it.
pub mod Bounds
pub mod Rect
