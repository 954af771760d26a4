pub mod Papers
pub mod Reading
pub mod Views
pub mod Whole
