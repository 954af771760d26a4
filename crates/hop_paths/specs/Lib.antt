pub mod Allowed
pub mod Layers
pub mod Laws
pub mod Searching
pub mod Searched
pub mod Lending
