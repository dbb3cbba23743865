pub mod Encodings
pub mod Number
pub mod Digits
pub mod Refusals
pub mod Readers
pub mod Halves
