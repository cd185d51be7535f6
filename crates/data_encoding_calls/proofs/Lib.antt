mod DecodeLemmas
mod FitLemmas
mod TwoTextLemmas
pub mod NumberLemmas
mod NameLemmas
pub mod DecoderStateLemmas
mod EncoderStateLemmas
mod Vectors
