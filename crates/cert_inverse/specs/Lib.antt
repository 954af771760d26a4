pub mod Inverse
pub mod Judging
