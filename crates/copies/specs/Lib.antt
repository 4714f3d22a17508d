-- The calls of a repeater: the order of its copies, and the numbers of one of them.
pub mod Order
pub mod Calls
pub mod Enlarged
