pub mod Passed
pub mod AppendFaults
pub mod LogAppends
pub mod OneContent
pub mod Names
pub mod NewTopics
pub mod NewStates
pub mod OwnContent
pub mod Restored
pub mod PlacedTopics
pub mod NumberedPartitions
pub mod Shapes
pub mod ValidAppends
pub mod SoundStates
pub mod GroupPlace
mod NextIds
