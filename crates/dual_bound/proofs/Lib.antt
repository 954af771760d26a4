pub mod Assembling
pub mod Bounding
pub mod Demands
pub mod Distances
pub mod DualRows
pub mod Filling
pub mod Sources
pub mod Weighing
