-- Read in this order; each module uses only those above it.
pub mod GroupPartition
pub mod Appending
pub mod OffsetCommit
pub mod OffsetFetch
pub mod ForgetGroup
