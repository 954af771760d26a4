pub mod Entries
pub mod Carried
pub mod DualNumbers
pub mod Figures
pub mod Judged
pub mod PathWeights
pub mod Written
