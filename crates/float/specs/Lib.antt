-- What the contracts of `float` say beyond the definitions of `ieee`.
pub mod Parts
