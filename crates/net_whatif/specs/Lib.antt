pub mod Scripted
pub mod Sound
