pub mod Planned
pub mod Ratios
pub mod Shown
pub mod Tournament
