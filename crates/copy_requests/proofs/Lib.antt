pub mod Counts
pub mod Deliveries
pub mod Imported
pub mod Entries
pub mod Trims
pub mod Asked
pub mod Patched
pub mod DeltaEntries
