-- What the proofs of `nest` cite, what callers may cite of rows and items, and closed cases.
pub mod Rows
pub mod Children
pub mod Lists
pub mod Items
pub mod Alike
mod Cases
