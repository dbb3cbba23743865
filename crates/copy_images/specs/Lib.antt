pub mod Images
pub mod Refusals
pub mod Judging
pub mod Reading
