pub mod Asked
pub mod Solves
pub mod Numbered
pub mod Batch
