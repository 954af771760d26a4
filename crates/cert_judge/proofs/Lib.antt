pub mod Fitting
pub mod Judgements
pub mod KnownHeaders
pub mod NewFits
pub mod PaperFacts
pub mod PaperFits
pub mod Seconds
pub mod Stages
