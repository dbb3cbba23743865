-- Read in this order; each module uses only those above it.
pub mod Snapshots
pub mod Writing
pub mod Restoring
pub mod Faults
pub mod RestoredParts
