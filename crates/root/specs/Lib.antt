-- What the contracts of `root` cite beside the definitions of `ieee`.
pub mod Candidate
