pub mod Print
pub mod Solve
pub mod Drawn
