-- The program `plate`, from the text that it reads to the text that it prints.
pub mod Plate
