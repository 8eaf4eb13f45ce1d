pub mod Report
pub mod Words
