-- What the counting of a path's numbers looks at on its way.
pub mod Leaves
