-- Sines from a table, and the series that they are nearest to.
pub mod Series
pub mod Nearest
pub mod Table
pub mod Quadrants
pub mod Laws
