pub mod Shutting
pub mod Gathering
pub mod Written
pub mod Naming
pub mod Worth
pub mod Told
