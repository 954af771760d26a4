pub mod Hands
pub mod Routing
pub mod Found
pub mod Going
pub mod Routes
pub mod Steps
pub mod Rooms
pub mod Work
