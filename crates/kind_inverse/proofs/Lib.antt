pub mod CleanLines
pub mod Exactly
pub mod Fitting
pub mod HopsTakes
pub mod LayerLaws
pub mod PartTakes
pub mod PartsTake
pub mod TextsAgain
