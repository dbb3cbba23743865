pub mod AnsweredFrames
pub mod ChangedPlaces
pub mod FollowersStay
pub mod AskedCleans
mod EffectsApart
mod Followed
mod Said
mod TopicsFit
mod FittingResponses
mod ValidContents
mod Works
mod OnceFits
mod SentBatches
mod ProduceFits
mod FetchFits
mod ListOffsetsFits
mod MetadataFits
mod OffsetCommitFits
mod OffsetFetchFits
mod FindCoordinatorFits
mod ApiVersionsFits
mod InitProducerIdFits
mod DeliverFits
pub mod CleanFits
mod ExportFits
mod ExportDeltaFits
mod ImportFits
mod ImportDeltaFits
mod GetFits
mod CoverFits
mod ForgetGroupFits
mod TrimFits
mod RepliesFit
mod GivenIds
mod AnyVersion
