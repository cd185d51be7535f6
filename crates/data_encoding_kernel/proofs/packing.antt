-- The bytes of a text that are not ignored, packed.
pub mod PickedLemmas
pub mod MoveLemmas
pub mod PackLemmas
pub mod IgnoredLemmas
pub mod KeptLemmas
pub mod FrontLemmas
