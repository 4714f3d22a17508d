-- What the text of a plate says.
pub mod Text
pub mod Fields
