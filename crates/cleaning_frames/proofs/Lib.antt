mod AskedFrames
mod AskedParts
mod ReadReplies
