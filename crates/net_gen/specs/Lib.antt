pub mod Draws
pub mod Generated
pub mod Lines
pub mod Drawn
