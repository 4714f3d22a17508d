-- What callers of `matrix` cite.
pub mod Rotation
