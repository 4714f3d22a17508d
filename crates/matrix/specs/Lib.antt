-- Matrices and their products.
pub mod Matrix
