-- Texts in the order of their data.
pub mod FrontLemmas
pub mod TextOrderLemmas
pub mod OrderPairLemmas
pub mod ComparedLemmas
pub mod EighteenOrderLemmas
