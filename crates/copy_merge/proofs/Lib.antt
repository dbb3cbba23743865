pub mod Merged
pub mod Deciding
