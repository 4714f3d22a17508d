-- Commands and refusals as numbers; refused, or an answer; and what a call that fills buffers promises.
pub mod Commands
pub mod Refusals
pub mod Outcomes
pub mod Buffers
pub mod Enlarged
