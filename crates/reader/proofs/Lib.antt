-- What the definitions of `reader` say of written commands, and what the proofs of its functions cite.
pub mod Commands
pub mod Ways
