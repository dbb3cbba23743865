-- Read in this order; each module uses only those above it.
pub mod Files
pub mod MemoryDrafts
pub mod Slots
pub mod Parts
pub mod Drafts
