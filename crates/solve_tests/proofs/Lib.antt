pub mod LeastPaths
pub mod Rows
