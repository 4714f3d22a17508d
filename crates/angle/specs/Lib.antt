-- An angle in sixteenths of a degree, and its cosine and sine.
pub mod Sixteenths
pub mod Direction
