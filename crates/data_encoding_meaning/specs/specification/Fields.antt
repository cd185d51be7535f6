-- The base that is built from the fields of a specification, or the reason to refuse them.
use Rattle.std.specs.Prelude.{◌≡◌, ℕ, zero, suc, ◌%◌, ◌==◌, nat_lt, nat_le, Bool, true, false, not, ◌&&◌, ◌||◌, if◌then◌else◌, List, [], ◌∷◌, ◌++◌, map, length, Option, Some, None, is_none, zip, position, Result, Ok, Err}
use Rattle.std.specs.List.{enumerate_from, range_with_len}
use Rattle.std.specs.Option.{option_or}
use Rattle.data_encoding_meaning.specs.declared.encoding.BitOrder.{BitOrder}
use Rattle.data_encoding_meaning.specs.declared.encoding.Character.{Character}
use Rattle.data_encoding_meaning.specs.declared.encoding.Character.TheVariants.{Symbol, Padding, Ignored, Invalid}
use Rattle.data_encoding_meaning.specs.declared.refusal.Refusal.{Refusal}
use Rattle.data_encoding_meaning.specs.declared.refusal.Refusal.TheVariants.{BadSize, NotAscii, Duplicate, ExtraPadding, WrapLength, WrapWidth, FromTo, Undefined}
use Rattle.data_encoding_meaning.specs.text.Base.{Base, group_symbols, is_invalid}

-- The fields of a specification, with texts as lists of bytes.
pub record Fields : Type 0 where
  pub symbols : List ℕ
  pub order : BitOrder
  pub checks_trailing_bits : Bool
  pub concatenates : Bool
  pub padding : Option ℕ
  pub ignored : List ℕ
  pub column : ℕ
  pub separator : List ℕ
  pub from : List ℕ
  pub to : List ℕ

-- A step in checking a specification: a condition, a byte with its meaning, or a byte that is
-- translated to another.
pub data Judgement : Type 0 where
  Require : Bool → Refusal → Judgement
  Define : ℕ → Character → Judgement
  Translate : ℕ → ℕ → Judgement

-- `true` if the two meanings are equal.
abbrev pub is_same : Character → Character → Bool
is_same (Symbol a) (Symbol b) = a == b
is_same Padding Padding = true
is_same Ignored Ignored = true
is_same Invalid Invalid = true
is_same _ _ = false

-- The meaning that the first pair for `byte` gives it, or invalid if there is none.
abbrev pub given : List (ℕ × Character) → ℕ → Character
given [] byte = Invalid
given (pair ∷ pairs) byte = if pair.0 == byte then pair.1 else given pairs byte

-- The pair of a check, if it has one. A translated byte has the meaning that an earlier pair
-- gives to its target.
abbrev pub pairs_of : List (ℕ × Character) → Judgement → List (ℕ × Character)
pairs_of earlier (Require holds refusal) = []
pairs_of earlier (Define byte m) = (byte, m) ∷ []
pairs_of earlier (Translate from to) = (from, given earlier to) ∷ []

-- The earlier pairs, followed by the pairs of all checks in order.
abbrev pub pairs_after : List (ℕ × Character) → List Judgement → List (ℕ × Character)
pairs_after earlier [] = earlier
pairs_after earlier (judgement ∷ others) =
    pairs_after (earlier ++ pairs_of earlier judgement) others

-- `true` if an earlier pair gives `byte` another meaning.
abbrev pub is_contradicted : List (ℕ × Character) → ℕ → Character → Bool
is_contradicted earlier byte m =
    not (is_invalid (given earlier byte)) && not (is_same (given earlier byte) m)

-- The reason to refuse a pair: its byte is not ASCII, or an earlier pair contradicts it.
abbrev pub pair_refusal : List (ℕ × Character) → ℕ → Character → Option Refusal
pair_refusal earlier byte m =
    if nat_le 128 byte then Some NotAscii
    else if is_contradicted earlier byte m then Some (Duplicate byte)
    else None

-- The reason to refuse a translation: its target is not ASCII or has no meaning by an earlier pair,
-- or the pair is refused.
abbrev pub translation_refusal : List (ℕ × Character) → ℕ → ℕ → Option Refusal
translation_refusal earlier from to =
    if nat_le 128 to then Some NotAscii
    else if is_invalid (given earlier to) then Some (Undefined to)
    else pair_refusal earlier from (given earlier to)

-- The reason why a check fails.
abbrev pub judgement_refusal : List (ℕ × Character) → Judgement → Option Refusal
judgement_refusal earlier (Require holds refusal) = if holds then None else Some refusal
judgement_refusal earlier (Define byte m) = pair_refusal earlier byte m
judgement_refusal earlier (Translate from to) = translation_refusal earlier from to

-- The refusal of the first check that fails.
abbrev pub first_refusal : List (ℕ × Character) → List Judgement → Option Refusal
first_refusal earlier [] = None
first_refusal earlier (judgement ∷ others) =
    option_or (judgement_refusal earlier judgement)
    (first_refusal (earlier ++ pairs_of earlier judgement) others)

-- The meaning of each byte below 128 by the given pairs.
abbrev pub meanings_by : List (ℕ × Character) → List Character
meanings_by pairs = map (given pairs) (range_with_len 0 128)

-- The meanings by the given pairs, or the refusal if there is one.
abbrev pub meanings_unless : Option Refusal → List (ℕ × Character)
    → Result (List Character) Refusal
meanings_unless None pairs = Ok (meanings_by pairs)
meanings_unless (Some refusal) pairs = Err refusal

-- The meanings by the pairs of all checks, or the refusal of the first that fails.
abbrev pub meanings_of : List Judgement → Result (List Character) Refusal
meanings_of all = meanings_unless (first_refusal [] all) (pairs_after [] all)

-- The number of bits of a symbol, if `count` symbols are a power of two of at most 64. One symbol
-- has 0 bits.
abbrev pub width_of : ℕ → Option ℕ
width_of count = position (λ n. n == count) (1 ∷ 2 ∷ 4 ∷ 8 ∷ 16 ∷ 32 ∷ 64 ∷ [])

-- Each symbol with its value, counted from `value`.
abbrev pub symbol_judgements : ℕ → List ℕ → List Judgement
symbol_judgements value symbols =
    map (λ (p : ℕ × ℕ). Define p.1 (Symbol p.0)) (enumerate_from value symbols)

-- The checks of padding: the width needs it, and the character is ASCII and has no other
-- meaning.
abbrev pub padding_judgements : ℕ → Option ℕ → List Judgement
padding_judgements width None = []
padding_judgements width (Some character) =
    Require (not (8 % width == 0)) ExtraPadding ∷ Require (nat_lt character 128) NotAscii
    ∷ Define character Padding ∷ []

-- The checks of ignored bytes.
abbrev pub ignored_judgements : List ℕ → List Judgement
ignored_judgements bytes = map (λ byte. Define byte Ignored) bytes

-- `true` if there are lines: the width is not 0, and the separator is not empty.
abbrev pub wraps : ℕ → List ℕ → Bool
wraps column separator = not (column == 0) && not (length separator == 0)

-- The checks of lines: their lengths, and the separator. Its bytes are ignored.
abbrev pub wrapping_judgements : ℕ → ℕ → List ℕ → List Judgement
wrapping_judgements width column separator =
    if wraps column separator
    then Require (nat_lt column 256 && nat_lt (length separator) 256) WrapLength
    ∷ Require (column % group_symbols width == 0) (WrapWidth (group_symbols width))
    ∷ ignored_judgements separator
    else []

-- The checks of translations, pair by pair.
abbrev pub pair_judgements : List ℕ → List ℕ → List Judgement
pair_judgements from to = map (λ (p : ℕ × ℕ). Translate p.0 p.1) (zip from to)

-- The checks of a translation: its two texts have the same length, and each pair is checked.
abbrev pub translation_judgements : List ℕ → List ℕ → List Judgement
translation_judgements from to =
    Require (length from == length to) FromTo ∷ pair_judgements from to

-- The checks of a specification, in order.
abbrev pub judgements : ℕ → Fields → List Judgement
judgements width fields =
    symbol_judgements 0 fields.symbols
    ++ padding_judgements width fields.padding
    ++ ignored_judgements fields.ignored
    ++ wrapping_judgements width fields.column fields.separator
    ++ translation_judgements fields.from fields.to

-- The base of `fields` with the given meanings, or the refusal.
abbrev pub base_with : ℕ → Fields → Result (List Character) Refusal → Result Base Refusal
base_with width fields (Err refusal) = Err refusal
base_with width fields (Ok meanings) = Ok (record {
  width = width;
  order = fields.order;
  symbols = fields.symbols;
  checks_trailing_bits = fields.checks_trailing_bits || (8 % width == 0);
  concatenates = fields.concatenates || is_none fields.padding;
  padding = fields.padding;
  meanings = meanings;
  wrapping =
      if wraps fields.column fields.separator
      then Some (record { column = fields.column; separator = fields.separator }) else None;
})

-- The base of `fields` with symbols of the given number of bits, or the refusal.
abbrev pub base_by : Option ℕ → Fields → Result Base Refusal
base_by None fields = Err BadSize
base_by (Some zero) fields = Err BadSize
base_by (Some (suc n)) fields =
    base_with (suc n) fields
    (meanings_of (judgements (suc n) fields))

-- The base that is built from `fields`, or the refusal.
abbrev pub base_of : Fields → Result Base Refusal
base_of fields = base_by (width_of (length fields.symbols)) fields

-- The base is built from some specification.
pub record IsSpecified (base : Base) : Type 0 where
  pub fields : Fields
  pub is_built : base_of fields ≡ Ok base
