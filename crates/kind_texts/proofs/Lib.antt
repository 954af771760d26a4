pub mod HopsFit
pub mod PartFits
pub mod PartsFit
pub mod Writable
