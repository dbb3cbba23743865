pub mod Fields
pub mod Reading
pub mod Types
pub mod Arrays
pub mod Frames
pub mod Names
