pub mod Calls
pub mod Columns
pub mod Places
