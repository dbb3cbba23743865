-- Read in this order; each module uses only those above it.
pub mod Codes
pub mod State
pub mod Producers
pub mod Checks
pub mod Configs
pub mod Batches
pub mod Places
pub mod Changes
pub mod Appending
pub mod Restoring
pub mod Partitions
pub mod ConfigValues
pub mod Taken
pub mod Parts
pub mod Sound
