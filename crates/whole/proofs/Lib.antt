-- What the proofs of `whole` cite.
pub mod Closest
pub mod Even
pub mod Limit
pub mod Short
pub mod ShortWays
pub mod Signs
pub mod Ways
