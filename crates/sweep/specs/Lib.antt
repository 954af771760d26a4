pub mod Sweep
pub mod Slots
pub mod Lines
pub mod Laws
