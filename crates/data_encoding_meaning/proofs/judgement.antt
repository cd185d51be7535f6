-- From a specification to a base, and back.
pub mod JudgementLemmas
pub mod MeaningTableLemmas
pub mod RuleLemmas
pub mod RoundTripLemmas
pub mod TranslationLemmas
pub mod BuiltLemmas
