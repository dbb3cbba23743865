-- Read in this order; each module uses only those above it.
pub mod Lists
pub mod Codes
pub mod Work
pub mod Plans
pub mod Responding
pub mod Once
pub mod Writing
pub mod WritingParts
pub mod Refusals
pub mod Telling
pub mod Doing
