pub mod WholeFields
pub mod Keys
pub mod CommittedValues
pub mod Refusals
pub mod Batches
pub mod Lookups
pub mod Groups
pub mod Walks
