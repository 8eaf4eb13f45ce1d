pub mod Beside
pub mod Changes
pub mod Slots
pub mod Loopbacks
pub mod Mails
