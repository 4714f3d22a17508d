-- What the contracts of `whole_root` say beyond the definitions of `ieee`.
pub mod Steps
