-- Read in this order; each module uses only those above it.
pub mod Newest
pub mod Shards
