pub mod ApiTable
pub mod WholeFrames
pub mod OneOutcome
mod FetchNumbers
