pub mod SamePaths
pub mod Adding
pub mod Reordered
pub mod TurnSums
pub mod Counted
pub mod Unique
