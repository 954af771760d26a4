pub mod Counting
pub mod Gathering
pub mod Written
pub mod Solved
