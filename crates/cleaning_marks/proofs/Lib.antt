pub mod Again
pub mod Judging
pub mod Meaning
pub mod Parts
pub mod Seen
