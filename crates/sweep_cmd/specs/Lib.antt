pub mod Asked
pub mod Swept
pub mod Lines
pub mod Sweep
pub mod SweepSolve
