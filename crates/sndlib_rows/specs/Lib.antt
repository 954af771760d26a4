pub mod Stored
pub mod Views
pub mod Numbering
pub mod Names
pub mod RowViews
pub mod Parts
pub mod Net
