pub mod Bearers
pub mod Costs
pub mod Mailbox
pub mod Pairs
pub mod Shown
pub mod Signals
