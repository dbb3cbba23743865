pub mod ForgottenKeys
pub mod GroupAppends
pub mod OffsetCommitEntries
pub mod OffsetCommitReplies
pub mod OffsetWalks
pub mod OffsetFetchReplies
