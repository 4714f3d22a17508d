-- A float as a count.
pub mod Count
