pub mod FirstLines
pub mod LineFits
pub mod LineSteps
pub mod OldForm
pub mod RowSteps
pub mod Steps
