-- Texts in groups, and what they mean.
pub mod PositionLemmas
pub mod KeptLemmas
pub mod SameBytesLemmas
pub mod LengthLemmas
pub mod UnpaddedGroupLemmas
pub mod GroupLemmas
pub mod SoundLemmas
pub mod WholeGroupLemmas
pub mod UnpaddedGrammarLemmas
pub mod MeaningLemmas
pub mod JoinLemmas
pub mod JoinFaultLemmas
pub mod TightLemmas
pub mod SameMeaningLemmas
