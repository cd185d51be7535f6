-- The tables of a layout, and the meanings of their entries.
pub mod EntryLemmas
pub mod LayoutLemmas
pub mod LayoutRuleLemmas
pub mod OneLayoutLemmas
pub mod ReadingLemmas
pub mod EntryRuleLemmas
