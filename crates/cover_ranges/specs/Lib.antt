pub mod Runs
pub mod CoverValue
pub mod Index
pub mod Insertion
pub mod Refusal
