pub mod Inverse
pub mod OfNetwork
