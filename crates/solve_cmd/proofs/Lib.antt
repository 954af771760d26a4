pub mod Certificates
pub mod Trying
mod Steps
