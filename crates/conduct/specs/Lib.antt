pub mod Lists
pub mod Sweeps
