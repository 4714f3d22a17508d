-- What is asked of the coordinates and the weights of a curve, so that its points are exact sums in binary64.
pub mod Level
pub mod Weight
