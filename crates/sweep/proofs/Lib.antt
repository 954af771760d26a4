pub mod Closing
pub mod Putting
pub mod Written
pub mod Gathering
