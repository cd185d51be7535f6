pub mod LineLemmas
pub mod OrderLemmas
pub mod NameLemmas
pub mod FaultLemmas
pub mod BuiltLemmas
pub mod StreamedLemmas
pub mod RewrittenLemmas
pub mod ResumedLemmas
pub mod LowerLemmas
pub mod KeyLemmas
mod Vectors
