pub mod ResponseParts
pub mod ProduceParts
pub mod FetchParts
pub mod ListOffsetsParts
pub mod MetadataParts
pub mod OffsetCommitParts
pub mod OffsetFetchParts
pub mod CoverParts
mod BytesBehindHeads
mod MetadataHead
mod ApiVersionsParts
mod FindCoordinatorParts
