-- What a lent command list says, and whether it is sound.
pub mod Lists
