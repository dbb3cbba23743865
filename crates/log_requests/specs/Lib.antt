-- Read in this order; each module uses only those above it. Below each request's own module are words of private clauses.
pub mod Produce
pub mod Fetch
pub mod ListOffsets
pub mod Metadata
