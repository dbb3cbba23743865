-- Read in this order; each module uses only those above it.
pub mod Ids
pub mod Soundness
pub mod Standing
pub mod Generations
pub mod Waiting
pub mod Replies
pub mod Telling
