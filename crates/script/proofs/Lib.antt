pub mod Capacities
pub mod Scanning
pub mod Found
pub mod Spelled
