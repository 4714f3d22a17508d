-- Curves and their lengths.
pub mod Curve
