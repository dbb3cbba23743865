-- Read in this order; each module uses only those above it.
pub mod Turns
pub mod Visits
pub mod Orders
pub mod Steps
pub mod Waiting
pub mod Asleep
pub mod Joining
pub mod Watched
pub mod Growing
pub mod Below
