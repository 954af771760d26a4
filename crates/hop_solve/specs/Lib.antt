pub mod Run
pub mod Laws
pub mod Turns
pub mod Numbers
pub mod Reached
