pub mod ProducerIds
pub mod OneChange
pub mod Examples
