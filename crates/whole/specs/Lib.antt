-- The contracts of `whole` cite these definitions and those of `ieee`.
pub mod Even
pub mod Small
