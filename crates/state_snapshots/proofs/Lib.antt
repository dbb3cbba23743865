pub mod Written
pub mod Known
pub mod Restored
pub mod Stopped
pub mod Beyond
pub mod ReadHead
pub mod Readable
pub mod ReadBack
