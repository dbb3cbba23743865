-- Read in this order; each module uses only those above it.
pub mod Sessions
pub mod SessionSteps
pub mod Below
