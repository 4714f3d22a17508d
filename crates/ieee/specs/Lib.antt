-- The arithmetic that `lib.Ieee` leaves out, and exact multiples. One definition a rule, each total and computable.
pub mod Literal
pub mod Operators
pub mod Sign
pub mod Choice
pub mod Each
pub mod Limit
pub mod Single
pub mod Whole
pub mod Remainder
pub mod Fused
pub mod Root
pub mod Cut
pub mod Grid
pub mod Pattern
