pub mod Runs
pub mod Splice
pub mod Law
pub mod RunsFrom
pub mod RunSets
pub mod RunEnds
pub mod Cutting
