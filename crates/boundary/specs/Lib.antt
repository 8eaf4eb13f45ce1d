pub mod Calls
pub mod Replays
pub mod Setups
