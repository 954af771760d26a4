pub mod Asked
pub mod Tally
pub mod Conditions
