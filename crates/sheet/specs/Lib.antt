-- What a sheet has room for, and what it writes.
pub mod Sheets
