pub mod Ports
pub mod Addresses
pub mod Below
