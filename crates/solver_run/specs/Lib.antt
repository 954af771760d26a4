pub mod Headline
pub mod History
pub mod Options
pub mod Paths
pub mod Run
pub mod Small
