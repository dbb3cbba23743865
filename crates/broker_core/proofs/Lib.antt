pub mod ServedFrames
pub mod ServedSessions
