-- Read in this order; each module uses only those above it.
pub mod Replaying
pub mod Barring
pub mod Noting
pub mod NotingLaws
pub mod Keeping
pub mod Recovering
pub mod GroupSteps
