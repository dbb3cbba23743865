pub mod Escapes
pub mod Numbers
