pub mod Sizes
pub mod SoundLines
