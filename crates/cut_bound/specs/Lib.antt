pub mod Candidates
pub mod Cuts
pub mod Laws
pub mod Least
pub mod Search
pub mod Slots
pub mod Sums
pub mod Tightened
