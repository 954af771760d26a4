pub mod Appended
pub mod Grown
pub mod Pricing
