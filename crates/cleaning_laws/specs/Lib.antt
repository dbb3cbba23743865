-- Read in this order; each module uses only those above it.
pub mod Logs
pub mod Alike
pub mod Settled
pub mod Cleans
pub mod Parts
pub mod WithMemory
pub mod AnsweredFrames
