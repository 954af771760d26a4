pub mod Asked
pub mod Solving
pub mod Tally
