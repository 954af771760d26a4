pub mod Members
pub mod Places
pub mod Steps
pub mod Sums
pub mod Whole
