-- What a segment of a drawn list is, where it stands in the buffers, and what it hangs on.
pub mod Segments
pub mod Law
