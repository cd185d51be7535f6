pub mod WriteLemmas
pub mod ReadLemmas
pub mod BlockLemmas
pub mod EncodedLemmas
pub mod SizeLemmas
pub mod ReadPieceLemmas
pub mod ReadRunLemmas
pub mod ReadByteLemmas
pub mod GroupLemmas
pub mod DecoderLemmas
pub mod DecodedLemmas
pub mod FinishLemmas
pub mod OrderLemmas
pub mod KindLemmas
pub mod ResumedLemmas
mod Vectors
