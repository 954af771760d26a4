pub mod Counting
pub mod Joining
pub mod Wholes
pub mod Finds
pub mod Goings
pub mod Logs
pub mod Spans
pub mod Sent
