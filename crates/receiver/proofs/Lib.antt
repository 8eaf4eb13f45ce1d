pub mod Armed
pub mod Called
pub mod Configured
pub mod Each
pub mod Roomy
pub mod Searches
pub mod Surveys
pub mod Unconfigured
