-- Read in this order; each module uses only those above it.
pub mod Ends
pub mod Tables
pub mod Refused
pub mod Merging
pub mod Merges
pub mod Runs
pub mod Status
pub mod Answering
pub mod SessionRuns
pub mod Input
