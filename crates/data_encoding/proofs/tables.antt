-- The tables of an encoding and the base that they describe.
pub mod TableLemmas
pub mod TableRuleLemmas
pub mod PlainLemmas
pub mod EqualityLemmas
pub mod LayoutTableLemmas
pub mod ReadTableLemmas
