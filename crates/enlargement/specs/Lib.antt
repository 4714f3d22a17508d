-- Two plates, and what it is that every call answers them alike and fills buffers alike.
pub mod Plates
pub mod Claim
pub mod Buffers
