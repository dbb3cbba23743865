-- Read in this order; each module uses only those above it.
pub mod Entries
pub mod Deltas
pub mod Patches
pub mod Accepting
pub mod Exchanges
pub mod Examples
