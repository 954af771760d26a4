pub mod Gates
pub mod Gating
pub mod Prices
