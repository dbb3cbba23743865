pub mod Known
pub mod Tellings
pub mod Walks
