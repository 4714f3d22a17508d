-- What a segment writes, proved: the commands that a call leaves in its buffers, the segments among them, and the lists that each call draws.
pub mod Written
pub mod Segments
pub mod Drawn
