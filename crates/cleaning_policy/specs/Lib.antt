-- Read in this order; each module uses only those above it.
pub mod Samples
pub mod Marking
pub mod Partitions
pub mod Policies
pub mod Histories
pub mod Readers
pub mod Courses
