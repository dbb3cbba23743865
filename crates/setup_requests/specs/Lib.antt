-- Read in this order; each module uses only those above it.
pub mod ApiVersions
pub mod InitProducerId
pub mod FindCoordinator
