pub mod Found
pub mod Judged
pub mod Answer
pub mod Files
