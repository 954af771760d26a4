pub mod Partial
pub mod Conditions
pub mod Verdicts
pub mod Laws
pub mod Run
pub mod Loaded
pub mod Reached
