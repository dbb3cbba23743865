mod Counting
mod Limits
mod Runs
pub mod Left
mod Placed
mod Rooms
mod Entry
mod Lacking
pub mod Growing
pub mod Sleeping
pub mod Times
pub mod Appending
pub mod OneChange
pub mod Cleaning
