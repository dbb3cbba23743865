-- Read in this order; each module uses only those above it.
pub mod ByOffset
pub mod Records
pub mod Table
pub mod Content
pub mod Windows
pub mod Verdicts
pub mod Cleaning
pub mod Parts
pub mod Joins
pub mod Logs
pub mod Copies
pub mod LegalLogs
pub mod Deliveries
pub mod Examples
