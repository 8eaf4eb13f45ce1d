pub mod Keeping
pub mod Out
pub mod Places
pub mod Sweeping
