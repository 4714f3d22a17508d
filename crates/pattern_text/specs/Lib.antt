-- What the vectors programs read in a text.
pub mod Text
