pub mod Blocks
pub mod Fillings
