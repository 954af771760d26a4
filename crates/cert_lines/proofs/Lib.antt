pub mod CellSteps
pub mod LineForms
pub mod NumberLaws
pub mod NumberSteps
pub mod ValueSteps
pub mod Looked
pub mod SignedWords
