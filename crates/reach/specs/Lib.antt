-- Long enough yet: whether a command list reaches a length, and after how many commands.
pub mod Reach
pub mod Stops
