pub mod Entering
pub mod ChangedBatches
pub mod HeldRecords
pub mod KeptKeys
pub mod Forgetting
