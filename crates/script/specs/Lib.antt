pub mod Answer
pub mod Reading
pub mod Steps
pub mod Commands
