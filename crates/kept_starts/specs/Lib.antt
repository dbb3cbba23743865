-- Read in this order; each module uses only those above it.
pub mod Numbers
pub mod Rows
pub mod Places
pub mod Growth
pub mod Starts
pub mod Refusals
pub mod Removals
pub mod Below
