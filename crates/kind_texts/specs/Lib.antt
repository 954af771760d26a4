pub mod Heads
pub mod HopsRead
pub mod HopsText
pub mod PartRead
pub mod PartText
pub mod Rows
