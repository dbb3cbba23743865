pub mod Below
pub mod Largest
