pub mod Running
pub mod Edited
pub mod PutBack
pub mod Changed
pub mod Front
pub mod Whole
