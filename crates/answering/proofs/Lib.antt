pub mod AnswersOfAll
pub mod Begun
pub mod SoFar
pub mod Planned
pub mod Checks
pub mod Told
pub mod ToldPlans
