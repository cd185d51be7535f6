-- The view of an encoding in contracts: the base of its tables.
use Rattle.std.specs.Prelude.{◌≡◌, ℕ, zero, suc, Bool, ◌/◌, ◌%◌, ◌^◌, ◌<◌, ◌==◌, nat_lt, ◌||◌, not, IsTrue, List, [], length, map, replicate, take, drop, slice_index, Option, None, Some, is_some}
use Rattle.std.specs.List.{concat, list_all, range_with_len}
use Rattle.data_encoding_meaning.specs.declared.encoding.BitOrder.{BitOrder}
use Rattle.data_encoding_meaning.specs.text.Base.{Base, IsWidth, ignores_some, group_symbols, wrapping_by}
use Rattle.data_encoding_meaning.specs.specification.Entries.{meaning_of_entry, is_entry_of}
use Rattle.data_encoding_kernel.specs.declared.simd.decode.affine.PlainAffine.{PlainAffine}
use Rattle.data_encoding_kernel.specs.declared.simd.encode.offset_alphabet.PlainOffsets.{PlainOffsets}
use Rattle.data_encoding_kernel.specs.Affine.{agrees}
use Rattle.data_encoding_kernel.specs.OffsetAlphabet.{has_sums}

-- The tables of an encoding.
pub record EncodingTables : Type 0 where
  pub symbols : List ℕ
  pub values : List ℕ
  pub width : ℕ
  pub order : BitOrder
  pub checks_trailing_bits : Bool
  pub concatenates : Bool
  pub padding : Option ℕ
  pub ignores : Bool
  pub column : ℕ
  pub separator : List ℕ
  pub form : PlainAffine
  pub offsets : PlainOffsets

-- The base that the tables describe.
abbrev pub base_of_tables : EncodingTables → Base
base_of_tables e = record {
  width = e.width;
  order = e.order;
  symbols = take (2 ^ e.width) e.symbols;
  checks_trailing_bits = e.checks_trailing_bits;
  concatenates = e.concatenates;
  padding = e.padding;
  meanings = map meaning_of_entry (take 128 e.values);
  wrapping = wrapping_by e.column e.separator;
}

-- Without a padding character no byte means padding. A padding character is ASCII and means
-- padding, and eight bits are not whole symbols.
abbrev pub KeepsPadding : Option ℕ → ℕ → List ℕ → Type 0
KeepsPadding None width values = IsTrue (list_all (λ v. not (v == 130)) (take 128 values))
KeepsPadding (Some character) width values =
    (character < 128) × (slice_index values character ≡ 130) × IsTrue (not (8 % width == 0))

-- Lines are whole groups, and each byte of the separator is ignored.
abbrev pub KeepsWrapping : ℕ → List ℕ → ℕ → List ℕ → Type 0
KeepsWrapping zero separator width values = separator ≡ []
KeepsWrapping (suc n) separator width values =
    (suc n < 256) × (suc n % group_symbols width ≡ 0)
    × (0 < length separator) × (length separator < 256)
    × IsTrue (list_all (λ byte. slice_index values byte == 129) separator)

-- The rules of the tables. A symbol has one to six bits, and trailing bits are checked if eight
-- bits are whole symbols. The symbols are ASCII, and are repeated to fill their table. Each has its
-- own value; any other byte has the value of a symbol, or 128 to 130; each from 128 on has 128. The
-- affine form agrees with the values, and the offset form with the symbols.
pub record KeepsRules (e : EncodingTables) : Type 0 where
  pub is_width : IsWidth e.width
  pub unpadded_concatenates : IsTrue (e.concatenates || is_some e.padding)
  pub whole_checked : IsTrue (e.checks_trailing_bits || not (8 % e.width == 0))
  pub symbols_repeat : e.symbols
      ≡ concat (replicate (256 / 2 ^ e.width) (take (2 ^ e.width) e.symbols))
  pub symbols_are_ascii : IsTrue (list_all (λ s. nat_lt s 128) (take (2 ^ e.width) e.symbols))
  pub own_values : map (λ s. slice_index e.values s) (take (2 ^ e.width) e.symbols)
      ≡ range_with_len 0 (2 ^ e.width)
  pub entries : IsTrue (list_all (is_entry_of (2 ^ e.width)) (take 128 e.values))
  pub invalid_from_128 : drop 128 e.values ≡ replicate 128 128
  pub padding : KeepsPadding e.padding e.width e.values
  pub ignores : e.ignores ≡ ignores_some (base_of_tables e)
  pub wrapping : KeepsWrapping e.column e.separator e.width e.values
  pub form_agrees : IsTrue (agrees e.values e.form)
  pub offsets_agree : IsTrue (has_sums e.symbols e.offsets)
