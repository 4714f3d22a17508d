-- What is promised of needs beside their equations: that 11 is given by them, and the room that is always enough.
pub mod Enough
