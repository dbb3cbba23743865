pub mod Frames
pub mod Turning
pub mod Owing
pub mod Going
pub mod Passing
pub mod OneOrder
pub mod Sending
pub mod Below
pub mod Leaving
pub mod Watching
pub mod Watched
mod Woken
mod Joining
mod Counting
mod Missing
mod WaitingOn
mod Requested
mod Joined
mod DueTimes
mod Booleans
mod Standers
mod Standing
mod Sharing
mod Marked
mod Growth
mod Looking
mod LookedAt
mod Passed
