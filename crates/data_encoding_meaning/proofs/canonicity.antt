-- One text for the same data, and the causes of a second.
pub mod TranslatedLemmas
pub mod OwnTextLemmas
pub mod OneTextLemmas
pub mod OneGroupLemmas
pub mod IgnoredTextLemmas
pub mod ConcatenatedTextLemmas
pub mod TrailingTextLemmas
pub mod TranslatedTextLemmas
pub mod CauseLemmas
pub mod TokenLemmas
pub mod EighteenLemmas
pub mod ExchangedTextLemmas
pub mod EighteenRuleLemmas
