-- Read in this order; each module uses only those above it.
pub mod Waiting
pub mod Counts
pub mod Sleeping
