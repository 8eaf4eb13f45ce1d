pub mod Empty
pub mod Ends
pub mod Fields
pub mod Figures
pub mod Held
pub mod Places
pub mod Receivers
pub mod Settings
