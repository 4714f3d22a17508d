-- Laws of the sine, its table and the quadrants.
pub mod Rule
pub mod Terms
pub mod Alternate
pub mod Order
pub mod Horner
pub mod Pi
pub mod Entries
pub mod Nearness
pub mod Ways
pub mod WholeTurn
