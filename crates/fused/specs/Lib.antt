-- What the inner contracts of `fused` say.
pub mod Align
pub mod Lifted
