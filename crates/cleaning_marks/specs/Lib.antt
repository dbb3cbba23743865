-- Read in this order; each module uses only those above it.
pub mod Files
pub mod Faults
pub mod Believing
pub mod Groups
