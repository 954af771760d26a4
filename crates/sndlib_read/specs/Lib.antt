pub mod Stored
pub mod Views
pub mod Steps
pub mod Numbering
pub mod Names
pub mod Ends
pub mod OfText
pub mod Answer
