pub mod Check
pub mod Parts
pub mod Laws
