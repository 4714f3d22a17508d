-- What the drawing calls answer: the order of their checks, and the commands.
pub mod Checks
pub mod Paths
pub mod Items
