-- The path of an ellipse.
pub mod Ellipse
