pub mod Layered
pub mod Layering
pub mod LeastOf
pub mod Traced
