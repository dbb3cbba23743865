pub mod Hashes
pub mod Known
pub mod Puts
