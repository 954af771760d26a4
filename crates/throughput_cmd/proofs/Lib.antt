mod Judgements
mod Verdicts
pub mod Made
mod Figures
mod Amounts
mod Written
mod Checked
