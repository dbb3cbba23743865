pub mod PlannedReplies
pub mod KeptStates
pub mod HandledReplies
pub mod ToldReplies
