-- An encoding as its layout in bytes, and as a specification.
use Rattle.std.specs.Prelude.{ℕ, ◌+◌, ◌/◌, ◌^◌, ◌==◌, Bool, false, not, if◌then◌else◌, List, [], ◌∷◌, ◌++◌, map, replicate, filter, Option, Some, None, unwrap_or}
use Rattle.std.specs.List.{range_with_len, concat}
use Rattle.data_encoding_meaning.specs.declared.encoding.BitOrder.{BitOrder}
use Rattle.data_encoding_meaning.specs.declared.encoding.BitOrder.TheVariants.{MostSignificantFirst, LeastSignificantFirst}
use Rattle.data_encoding_meaning.specs.declared.encoding.Character.{Character}
use Rattle.data_encoding_meaning.specs.declared.encoding.Character.TheVariants.{Symbol, Padding, Ignored, Invalid}
use Rattle.data_encoding_meaning.specs.text.Base.{Base, Wrapping, meaning, symbol, is_ignored, ignores_some}
use Rattle.data_encoding_meaning.specs.specification.Fields.{Fields}

-- The entry of a meaning in the layout.
abbrev pub code_of : Character → ℕ
code_of (Symbol value) = value
code_of Invalid = 128
code_of Ignored = 129
code_of Padding = 130

-- The flag of the bit order in the layout.
abbrev pub order_flag : BitOrder → ℕ
order_flag MostSignificantFirst = 8
order_flag LeastSignificantFirst = 0

-- The end of the layout: the lines. Without lines it is a zero if a byte is ignored, and otherwise
-- empty.
abbrev pub wrapping_bytes : Bool → Option Wrapping → List ℕ
wrapping_bytes ignores None = if ignores then 0 ∷ [] else []
wrapping_bytes ignores (Some wrapping) = wrapping.column ∷ wrapping.separator

-- The layout of a base: its symbols repeated, the entries, the padding, the flags, and the lines.
abbrev pub layout : Base → List ℕ
layout base =
    concat (replicate (256 / 2 ^ base.width) base.symbols)
    ++ map code_of base.meanings ++ replicate 128 128
    ++ unwrap_or base.padding 128
    ∷ (base.width + order_flag base.order + (if base.checks_trailing_bits then 16 else 0)
    + (if base.concatenates then 0 else 32))
    ∷ wrapping_bytes (ignores_some base) base.wrapping

-- The symbol or the padding character with the given meaning.
abbrev pub own_character : Base → Character → Option ℕ
own_character base (Symbol value) = Some (symbol base value)
own_character base Padding = base.padding
own_character base _ = None

-- The symbol or the padding character that `byte` means, or 0 if it means neither.
abbrev pub own_byte : Base → ℕ → ℕ
own_byte base byte = unwrap_or (own_character base (meaning base byte)) 0

-- `true` if there is a `character` for the meaning of `byte`, and it is not `byte`.
abbrev pub is_translated : Base → ℕ → Option ℕ → Bool
is_translated base byte None = false
is_translated base byte (Some character) = not (character == byte)

-- The translated bytes, in ascending order.
abbrev pub translated_bytes : Base → List ℕ
translated_bytes base =
    filter (λ byte. is_translated base byte (own_character base (meaning base byte)))
    (range_with_len 0 128)

-- The ignored bytes, in ascending order.
abbrev pub ignored_bytes : Base → List ℕ
ignored_bytes base =
    filter (λ byte. is_ignored (meaning base byte)) (range_with_len 0 128)

-- The width of the lines, or 0 if there are none.
abbrev pub column_of : Option Wrapping → ℕ
column_of None = 0
column_of (Some wrapping) = wrapping.column

-- The separator of the lines, or an empty one if there are none.
abbrev pub separator_of : Option Wrapping → List ℕ
separator_of None = []
separator_of (Some wrapping) = wrapping.separator

-- The fields of a specification from which the base is built.
abbrev pub fields_of : Base → Fields
fields_of base = record {
  symbols = base.symbols;
  order = base.order;
  checks_trailing_bits = base.checks_trailing_bits;
  concatenates = base.concatenates;
  padding = base.padding;
  ignored = ignored_bytes base;
  column = column_of base.wrapping;
  separator = separator_of base.wrapping;
  from = translated_bytes base;
  to = map (own_byte base) (translated_bytes base);
}
