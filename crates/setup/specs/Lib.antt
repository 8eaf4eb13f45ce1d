pub mod Boards
pub mod Setups
