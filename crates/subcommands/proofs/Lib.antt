pub mod Streams
pub mod Refusals
pub mod Intake
mod Sized
mod Pairs
mod Images
mod Stopping
mod Statuses
pub mod RunLemmas
