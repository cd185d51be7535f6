-- The text of whole groups.
pub mod PlainGroupLemmas
pub mod GroupTextLemmas
pub mod SixteenSymbolLemmas
