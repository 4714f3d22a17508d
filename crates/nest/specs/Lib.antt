-- Lists of rows, the nested items that they stand for, and empty groups.
pub mod Lists
pub mod Items
pub mod Flat
