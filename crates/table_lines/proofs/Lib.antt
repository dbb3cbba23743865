mod LineFeeds
mod Printed
pub mod Sending
