pub mod Judging
pub mod Parts
