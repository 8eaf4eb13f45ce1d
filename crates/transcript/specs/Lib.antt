pub mod Failures
pub mod Transcript
