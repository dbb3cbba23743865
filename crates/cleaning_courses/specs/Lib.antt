-- Read in this order; each module uses only those above it.
pub mod Keys
pub mod Places
pub mod Steps
pub mod Frames
pub mod Timelines
