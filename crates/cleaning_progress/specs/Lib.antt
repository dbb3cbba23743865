pub mod Progress
pub mod Extending
