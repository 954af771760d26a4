pub mod Certified
pub mod Chain
pub mod Fits
pub mod Judgement
pub mod Papers
pub mod Second
