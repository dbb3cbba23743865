-- Read in this order; each module uses only those above it.
pub mod Heads
pub mod Faults
pub mod Writing
