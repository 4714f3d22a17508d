-- Points that are finite.
pub mod Polyline
