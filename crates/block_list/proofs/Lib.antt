pub mod Running
pub mod Edited
pub mod PutBack
pub mod Filled
pub mod Front
pub mod Replaced
