-- The worked examples that document 01 stars, each a call's input and its output.
pub mod Calls
pub mod Plates
