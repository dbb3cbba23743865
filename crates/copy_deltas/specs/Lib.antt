-- Read in this order.
pub mod Applying
pub mod Outcomes
pub mod Deciding
pub mod DeltaParts
pub mod Exchanging
pub mod Below
