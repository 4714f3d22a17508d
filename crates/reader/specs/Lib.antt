-- One command as a code and numbers.
pub mod Read
