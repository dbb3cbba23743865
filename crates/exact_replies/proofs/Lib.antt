mod OnlyReading
mod OneExactReply
mod InPart
mod SameContents
pub mod SameChanges
pub mod SameStarts
