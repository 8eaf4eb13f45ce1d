pub mod Batches
pub mod Quotas
