-- Read in this order; each module uses only those above it.
pub mod Events
pub mod GoingOn
pub mod Moments
pub mod Steps
pub mod Putting
pub mod Below
pub mod Due
