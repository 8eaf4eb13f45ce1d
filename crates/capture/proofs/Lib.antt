pub mod Admission
pub mod OneOn
pub mod ReadsBack
pub mod Rest
