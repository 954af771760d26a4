pub mod ShortLaws
pub mod DigitLaws
pub mod Quotients
pub mod Cuts
pub mod UnitLaws
pub mod Ends
pub mod Decimals
pub mod RowSteps
pub mod Composition
pub mod NetworkFacts
pub mod Adding
pub mod CellSteps
mod Examples
pub mod Greatest
pub mod Modules
pub mod Keeping
pub mod WholeScaling
pub mod Parts
pub mod CellNumbers
pub mod LinkCaps
pub mod Named
mod CellExamples
