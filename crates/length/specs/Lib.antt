-- The length of a lent command list; and the walk by which the code comes to it.
pub mod Lists
pub mod Walk
