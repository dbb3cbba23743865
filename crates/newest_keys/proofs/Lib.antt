pub mod Maps
pub mod Records
