pub mod RowLines
pub mod StoredLaws
pub mod Scanning
pub mod Bounds
pub mod Whole
pub mod Answering
