-- Read in this order; each module uses only those above it.
pub mod Ways
pub mod Kinds
pub mod Effects
pub mod Changes
pub mod Replies
pub mod Fitting
pub mod Streams
pub mod Handling
pub mod Answers
pub mod Exactly
pub mod Below
