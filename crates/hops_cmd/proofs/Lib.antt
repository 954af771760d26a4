mod Judgements
pub mod Made
mod Figures
mod Written
mod Checked
