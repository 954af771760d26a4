pub mod Counts
pub mod Forms
pub mod HeadLines
pub mod Numbers
pub mod Rows
pub mod Spelling
pub mod Sheet
pub mod Signs
