-- The laws that the proofs of `fused` share.
pub mod Dyadic
pub mod Between
pub mod Sums
pub mod Shift
pub mod Packed
pub mod Aligned
pub mod Special
pub mod Operands
pub mod Wide
pub mod Double
pub mod Narrow
pub mod Ways
