-- Encodings in which data has only one text, and the causes of a second text.
use Rattle.std.specs.Prelude.{◌≡◌, ℕ, ◌-◌, ◌≤◌, ◌/◌, ◌==◌, Bool, true, false, not, ◌&&◌, List, [], ◌∷◌, ◌++◌, length, take, replicate, Some}
use Rattle.data_encoding_meaning.specs.declared.limits.TheConstants.{DECODE_LIMIT}
use Rattle.data_encoding_meaning.specs.declared.encoding.BitOrder.{BitOrder}
use Rattle.data_encoding_meaning.specs.declared.encoding.Character.TheVariants.{Symbol, Padding}
use Rattle.data_encoding_meaning.specs.text.Base.{Base, meaning, symbol, is_ignored, is_padded, ignores_some, group_symbols}
use Rattle.data_encoding_meaning.specs.text.Bits.{number_of}
use Rattle.data_encoding_meaning.specs.specification.Fields.{IsSpecified}
use Rattle.data_encoding_meaning.specs.text.Grammar.{Means}
use Rattle.data_encoding_meaning.specs.specification.Layout.{translated_bytes}
use Rattle.data_encoding_meaning.specs.text.Text.{padded_text, text_of, with_padding}

-- No two different texts of at most `DECODE_LIMIT` bytes mean the same data.
abbrev pub IsCanonical : Base → Type 0
IsCanonical base =
    (text other bytes : List ℕ)
    → length text ≤ DECODE_LIMIT → length other ≤ DECODE_LIMIT
    → Means base text bytes → Means base other bytes → text ≡ other

-- `true` if there is no cause of a second text: trailing bits are checked, padded texts may not be
-- concatenated, and no byte is ignored or translated.
abbrev pub has_one_text : Base → Bool
has_one_text base =
    base.checks_trailing_bits && not (is_padded base && base.concatenates)
    && not (ignores_some base) && (length (translated_bytes base) == 0)

-- If there is no cause of a second text, each text that means data is the text of that data.
abbrev pub Canonical : Type 0
Canonical =
    (base : Base) → IsSpecified base → has_one_text base ≡ true
    → (text bytes : List ℕ) → Means base text bytes → text ≡ text_of base bytes

-- Two different short texts mean the same data.
pub record AreTwoTexts (base : Base) (one other bytes : List ℕ) : Type 0 where
  pub differ : one ≡ other → ⊥
  pub one_is_short : length one ≤ 16
  pub other_is_short : length other ≤ 16
  pub one_means : Means base one bytes
  pub other_means : Means base other bytes

-- A text of one ignored byte means the same as the empty text.
abbrev pub IgnoredIsSecond : Base → Type 0
IgnoredIsSecond base =
    (byte : ℕ) → is_ignored (meaning base byte) ≡ true → AreTwoTexts base [] (byte ∷ []) []

-- The value of the symbol in which only the last bit is 1.
abbrev pub last_bit : BitOrder → ℕ → ℕ
last_bit order width = number_of order (replicate (width - 1) 0 ++ 1 ∷ [])

-- The text of a byte 0, but with a trailing bit that is 1.
abbrev pub trailing_text : Base → List ℕ
trailing_text base =
    with_padding base.padding (group_symbols base.width)
    (replicate (8 / base.width) (symbol base 0)
    ++ symbol base (last_bit base.order base.width) ∷ [])

-- A trailing bit that is not checked may be 1.
abbrev pub TrailingIsSecond : Base → Type 0
TrailingIsSecond base =
    base.checks_trailing_bits ≡ false
    → AreTwoTexts base (padded_text base (0 ∷ [])) (trailing_text base) (0 ∷ [])

-- If padded texts may be concatenated, two bytes may be encoded as two texts.
abbrev pub ConcatenatedIsSecond : Base → Type 0
ConcatenatedIsSecond base =
    is_padded base ≡ true → base.concatenates ≡ true
    → AreTwoTexts base (padded_text base (0 ∷ []) ++ padded_text base (0 ∷ []))
    (padded_text base (0 ∷ 0 ∷ [])) (0 ∷ 0 ∷ [])

-- A byte that is translated to a symbol may replace it.
abbrev pub SymbolIsSecond : Base → Type 0
SymbolIsSecond base =
    (byte value : ℕ) → meaning base byte ≡ Symbol value → (symbol base value ≡ byte → ⊥)
    → (bytes : List ℕ) × AreTwoTexts base (replicate (group_symbols base.width) (symbol base value))
    (replicate (group_symbols base.width) byte) bytes

-- The text of a byte 0, with `byte` as its last character.
abbrev pub text_ending_in : Base → ℕ → List ℕ
text_ending_in base byte =
    take (group_symbols base.width - 1) (padded_text base (0 ∷ [])) ++ byte ∷ []

-- A byte that is translated to padding may replace the last padding character.
abbrev pub PaddingIsSecond : Base → Type 0
PaddingIsSecond base =
    (byte character : ℕ) → meaning base byte ≡ Padding → base.padding ≡ Some character
    → (character ≡ byte → ⊥)
    → AreTwoTexts base (padded_text base (0 ∷ [])) (text_ending_in base byte) (0 ∷ [])

-- Each cause gives two different texts that mean the same data.
abbrev pub NotCanonical : Type 0
NotCanonical =
    (base : Base) → IsSpecified base → IgnoredIsSecond base × TrailingIsSecond base
    × ConcatenatedIsSecond base × SymbolIsSecond base × PaddingIsSecond base
