pub mod Answers
pub mod Captures
pub mod Contents
pub mod Limits
pub mod Numbers
pub mod Refusals
pub mod Savefile
pub mod Writing
