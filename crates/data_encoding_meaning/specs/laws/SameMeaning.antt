-- Texts with the same meaning.
use Rattle.std.specs.Prelude.{◌≡◌, ◌↔◌, ℕ, Bool, true, ◌&&◌, List, All, filter, map, not, unwrap_or}
use Rattle.data_encoding_meaning.specs.text.Base.{Base, meaning, is_ignored, is_invalid, is_padded, ignores_some}
use Rattle.data_encoding_meaning.specs.decoding.Fault.{fault_of}
use Rattle.data_encoding_meaning.specs.specification.Fields.{IsSpecified}
use Rattle.data_encoding_meaning.specs.text.Grammar.{Means}
use Rattle.data_encoding_meaning.specs.specification.Layout.{ignored_bytes, own_character}
use Rattle.data_encoding_meaning.specs.text.Text.{text_of}

-- The bytes of `text` that are not ignored.
abbrev pub kept_bytes : Base → List ℕ → List ℕ
kept_bytes base text = filter (λ byte. not (is_ignored (meaning base byte))) text

-- Texts that differ only in ignored bytes mean the same.
abbrev pub SameKeptBytes : Type 0
SameKeptBytes =
    (base : Base) → IsSpecified base → (text other bytes : List ℕ)
    → kept_bytes base text ≡ kept_bytes base other → Means base text bytes
    → Means base other bytes

-- Texts whose bytes mean the same characters, one by one, have the same fault and mean the same
-- data.
abbrev pub Translated : Type 0
Translated =
    (base : Base) → IsSpecified base → (text other : List ℕ)
    → map (meaning base) text ≡ map (meaning base) other
    → (fault_of base text ≡ fault_of base other)
    × ((bytes : List ℕ) → Means base text bytes → Means base other bytes)

-- The character of `other` with the meaning of `byte` in `base`, if that is a symbol or padding.
-- Otherwise `byte` itself.
abbrev pub exchanged : Base → Base → ℕ → ℕ
exchanged base other byte = unwrap_or (own_character other (meaning base byte)) byte

-- The text with each byte that means a symbol or padding replaced by that symbol or padding
-- character.
abbrev pub own_form : Base → List ℕ → List ℕ
own_form base text = map (exchanged base base) text

-- Each byte means the same as the byte that replaces it.
abbrev pub OwnForm : Type 0
OwnForm =
    (base : Base) → IsSpecified base → (text : List ℕ)
    → map (meaning base) text ≡ map (meaning base) (own_form base text)

-- `true` if a translated byte is the only possible cause of a second text.
abbrev pub has_one_own_form : Base → Bool
has_one_own_form base =
    base.checks_trailing_bits && not (is_padded base && base.concatenates)
    && not (ignores_some base)

-- If only translated bytes cause a second text, two texts that mean data mean the same data if and
-- only if their own forms are equal.
abbrev pub OwnForms : Type 0
OwnForms =
    (base : Base) → IsSpecified base → has_one_own_form base ≡ true
    → (text other bytes others : List ℕ) → Means base text bytes → Means base other others
    → (bytes ≡ others) ↔ (own_form base text ≡ own_form base other)

-- If only translated bytes cause a second text, the own form of a text that means data is the text
-- of the data.
abbrev pub OwnText : Type 0
OwnText =
    (base : Base) → IsSpecified base → has_one_own_form base ≡ true
    → (text bytes : List ℕ) → Means base text bytes → own_form base text ≡ text_of base bytes

-- The bases have the same width, bit order and lines, and both have padding or neither has.
pub record DifferInSymbols (base other : Base) : Type 0 where
  pub width : base.width ≡ other.width
  pub order : base.order ≡ other.order
  pub padded : is_padded base ≡ is_padded other
  pub wrapping : base.wrapping ≡ other.wrapping

-- The text of data in the other base is its text in the first, with each character exchanged.
abbrev pub SameButSymbols : Type 0
SameButSymbols =
    (base other : Base) → IsSpecified base → DifferInSymbols base other
    → (bytes : List ℕ) → text_of other bytes ≡ map (exchanged base other) (text_of base bytes)

-- The bases also agree on the check of trailing bits and on concatenation, and ignore the same
-- bytes.
pub record DifferInSymbolsAlone (base other : Base) : Type 0 where
  pub in_symbols : DifferInSymbols base other
  pub checks : base.checks_trailing_bits ≡ other.checks_trailing_bits
  pub concatenates : base.concatenates ≡ other.concatenates
  pub ignored : ignored_bytes base ≡ ignored_bytes other

-- Texts whose bytes mean the same characters, one by one, each in its base, have the same fault and
-- mean the same data.
abbrev pub SameInBoth : Type 0
SameInBoth =
    (base other : Base) → IsSpecified base → IsSpecified other → DifferInSymbolsAlone base other
    → (text another : List ℕ) → map (meaning base) text ≡ map (meaning other) another
    → (fault_of base text ≡ fault_of other another)
    × ((bytes : List ℕ) → Means base text bytes ↔ Means other another bytes)

-- The text with each character exchanged.
abbrev pub exchanged_text : Base → Base → List ℕ → List ℕ
exchanged_text base other text = map (exchanged base other) text

-- A text that means data means the same data in the other base, with each character exchanged.
abbrev pub MeansExchanged : Type 0
MeansExchanged =
    (base other : Base) → IsSpecified base → IsSpecified other → DifferInSymbolsAlone base other
    → (text bytes : List ℕ) → Means base text bytes
    → Means other (exchanged_text base other text) bytes

-- Each byte of `text` that is invalid in `base` is also invalid in `other`.
abbrev pub IsInvalidInBoth : Base → Base → List ℕ → Type 0
IsInvalidInBoth base other text =
    All (λ byte. is_invalid (meaning base byte) ≡ true → is_invalid (meaning other byte) ≡ true)
    text

-- If each invalid byte is also invalid in the other base, the exchanged text has the same fault at
-- the same position.
abbrev pub FaultExchanged : Type 0
FaultExchanged =
    (base other : Base) → IsSpecified base → IsSpecified other → DifferInSymbolsAlone base other
    → (text : List ℕ) → IsInvalidInBoth base other text
    → fault_of base text ≡ fault_of other (exchanged_text base other text)
