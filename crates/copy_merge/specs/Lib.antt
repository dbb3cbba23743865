pub mod Agreeing
pub mod Merges
