pub mod Reading
pub mod SweptParts
pub mod KeptSwept
pub mod DirtyBatches
pub mod Newest
pub mod StaySuperseded
