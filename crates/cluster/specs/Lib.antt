-- Read in this order; each module uses only those above it.
pub mod Worlds
pub mod Events
pub mod Headline
pub mod Parts
