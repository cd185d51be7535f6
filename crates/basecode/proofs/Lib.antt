pub mod ArgumentLemmas
pub mod ConversionLemmas
pub mod Conclusions
mod Vectors
pub mod LineLemmas
