-- Read in this order; each module uses only those above it.
pub mod Members
pub mod Groups
pub mod Requests
pub mod Joining
pub mod Coordinators
pub mod Times
pub mod Runs
pub mod Keeping
pub mod Doing
pub mod Entering
pub mod Least
pub mod Readiness
pub mod Finding
pub mod Due
pub mod Giving
pub mod Courses
