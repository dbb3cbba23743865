pub mod KnownNames
pub mod SnapshotBytes
