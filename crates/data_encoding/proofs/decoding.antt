-- The steps of a decoding.
pub mod OutputLemmas
pub mod StepLemmas
pub mod ReadGroupLemmas
pub mod PlacingLemmas
pub mod JudgedGroupLemmas
pub mod FrontLemmas
pub mod ShortLemmas
pub mod LastGroupLemmas
