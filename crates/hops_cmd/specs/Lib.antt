pub mod Check
pub mod Hops
pub mod Laws
