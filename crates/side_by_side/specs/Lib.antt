-- Read in this order.
pub mod Telling
pub mod Steps
pub mod Agreement
pub mod Fitting
pub mod Plans
pub mod RecordWalks
pub mod ListWalks
