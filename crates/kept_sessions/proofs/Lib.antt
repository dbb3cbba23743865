pub mod Barred
pub mod PlacesStay
pub mod BarredStay
pub mod Handling
pub mod Replayed
pub mod Kept
pub mod Mended
pub mod OneState
mod SameAnywhere
pub mod Recovered
pub mod GroupsReplayed
pub mod StartedAgain
