-- The text that the program `plate` prints.
pub mod Lines
pub mod Appended
