-- The text of data.
pub mod PlainTextLemmas
pub mod PaddedTextLemmas
pub mod TextJoinLemmas
pub mod EncodedPieceLemmas
pub mod LineLemmas
pub mod BlockLemmas
pub mod WrittenLemmas
pub mod SymbolMeaningLemmas
pub mod ExchangeLemmas
pub mod KeptTextLemmas
pub mod LastGroupLemmas
pub mod TextMeaningLemmas
pub mod TextLengthLemmas
