-- Read in this order; each module uses only those above it.
pub mod Codes
pub mod Deliver
pub mod Clean
pub mod Export
pub mod ExportDelta
pub mod Import
pub mod ImportDelta
pub mod Get
pub mod Cover
pub mod Trim
pub mod Outcomes
