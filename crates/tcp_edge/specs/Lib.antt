pub mod CommandLine
pub mod Examples
pub mod Keeping
pub mod Cleaning
pub mod Addresses
pub mod Asked
