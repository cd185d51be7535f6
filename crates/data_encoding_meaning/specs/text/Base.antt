-- The base of an encoding: everything that determines the meaning of its texts.
use Rattle.std.specs.Prelude.{ℕ, ◌<◌, ◌≤◌, ◌*◌, ◌/◌, ◌%◌, ◌==◌, Bool, true, false, List, Option, Some, None, is_some, slice_index_or, if◌then◌else◌, ◌≡◌, zero, suc}
use Rattle.std.specs.List.{list_any}
use Rattle.data_encoding_meaning.specs.declared.encoding.BitOrder.{BitOrder}
use Rattle.data_encoding_meaning.specs.declared.encoding.Character.{Character}
use Rattle.data_encoding_meaning.specs.declared.encoding.Character.TheVariants.{Symbol, Padding, Ignored, Invalid}

-- Lines of `column` characters, each followed by `separator`.
pub record Wrapping : Type 0 where
  pub column : ℕ
  pub separator : List ℕ

-- Symbols of `width` bits, in order of value, and the meaning of each byte below 128. If
-- `concatenates` is false, a text ends with its first padded group.
pub record Base : Type 0 where
  pub width : ℕ
  pub order : BitOrder
  pub symbols : List ℕ
  pub checks_trailing_bits : Bool
  pub concatenates : Bool
  pub padding : Option ℕ
  pub meanings : List Character
  pub wrapping : Option Wrapping

-- A symbol has one to six bits.
pub record IsWidth (width : ℕ) : Type 0 where
  pub some : 0 < width
  pub few : width ≤ 6

-- The meaning of `byte`. Each byte from 128 on is invalid.
abbrev pub meaning : Base → ℕ → Character
meaning base byte = slice_index_or base.meanings byte Invalid

-- The symbol of `value`.
abbrev pub symbol : Base → ℕ → ℕ
symbol base value = slice_index_or base.symbols value 0

-- `true` if the character is a symbol.
abbrev pub is_symbol : Character → Bool
is_symbol (Symbol value) = true
is_symbol _ = false

-- The value of a symbol.
abbrev pub value_of : Character → Option ℕ
value_of (Symbol value) = Some value
value_of _ = None

-- `true` if the character is padding.
abbrev pub is_padding : Character → Bool
is_padding Padding = true
is_padding _ = false

-- `true` if the character is ignored.
abbrev pub is_ignored : Character → Bool
is_ignored Ignored = true
is_ignored _ = false

-- `true` if the character is invalid.
abbrev pub is_invalid : Character → Bool
is_invalid Invalid = true
is_invalid _ = false

-- `true` if the base has a padding character.
abbrev pub is_padded : Base → Bool
is_padded base = is_some base.padding

-- `true` if some byte is ignored.
abbrev pub ignores_some : Base → Bool
ignores_some base = list_any is_ignored base.meanings

-- The number of bytes of a whole group: the least number whose bits are whole symbols.
abbrev pub group_bytes : ℕ → ℕ
group_bytes width = if width == 5 then 5 else if width % 3 == 0 then 3 else 1

-- The number of symbols of a whole group.
abbrev pub group_symbols : ℕ → ℕ
group_symbols width = group_bytes width * 8 / width

-- A whole group has `bytes` bytes, as `symbols` symbols of `width` bits.
pub record IsGroup (width bytes symbols : ℕ) : Type 0 where
  pub is_width : IsWidth width
  pub has_bytes : bytes ≡ group_bytes width
  pub has_symbols : symbols ≡ group_symbols width

-- Lines of the given width, or no lines if it is 0.
abbrev pub wrapping_by : ℕ → List ℕ → Option Wrapping
wrapping_by zero separator = None
wrapping_by (suc n) separator = Some (record { column = suc n; separator = separator })
