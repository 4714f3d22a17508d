-- The claim, proved, with an example and what goes wrong without some conditions; and that what is drawn is accepted as a command list.
pub mod Numbers
pub mod Buffers
pub mod Claim
pub mod Alike
pub mod Example
pub mod Needed
pub mod Accepted
