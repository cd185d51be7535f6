-- Alphabets of six bits with symbols that are their value plus an offset.
use Rattle.std.specs.Prelude.{◌≡◌, ℕ, ◌+◌, ◌-◌, ◌%◌, ◌^◌, ◌<◌, ◌==◌, ◌&&◌, ◌||◌, not, nat_lt, Bool, true, if◌then◌else◌, List, [], ◌∷◌, take, slice_index}
use Rattle.data_encoding_kernel.specs.declared.simd.encode.offset_alphabet.OffsetAlphabet.{OffsetAlphabet}
use Rattle.data_encoding_kernel.specs.declared.simd.encode.offset_alphabet.PlainOffsets.{PlainOffsets}

-- The additional offset of `value`: `first` if it is below the bound, or else 0.
abbrev pub first_of : OffsetAlphabet → ℕ → ℕ
first_of alphabet value = if nat_lt value alphabet.bound then alphabet.first else 0

-- The symbol of `value`: its sum with its offsets, modulo 256.
abbrev pub offset_symbol : OffsetAlphabet → ℕ → ℕ
offset_symbol alphabet value =
    ((value + slice_index alphabet.last (value - 48)) % 2 ^ 8 + first_of alphabet value) % 2 ^ 8

-- The sum for each value is its symbol.
pub record HoldsOffsetAlphabet (symbols : List ℕ) (alphabet : OffsetAlphabet) : Type 0 where
  pub agrees : (value : ℕ) → value < 64 → offset_symbol alphabet value ≡ slice_index symbols value

-- The offset form that the plain data describes.
abbrev pub alphabet_of : PlainOffsets → OffsetAlphabet
alphabet_of plain = record {
  last = plain.last;
  bound = plain.bound;
  first = plain.first;
}

-- `true` if the sums for the values from `value` on are the given symbols.
abbrev pub sums_from : OffsetAlphabet → ℕ → List ℕ → Bool
sums_from alphabet value [] = true
sums_from alphabet value (symbol ∷ symbols) =
    (offset_symbol alphabet value == symbol) && sums_from alphabet (value + 1) symbols

-- `true` if there is no form, or if the sum for each value is its symbol.
abbrev pub has_sums : List ℕ → PlainOffsets → Bool
has_sums symbols plain =
    not plain.has_offsets || sums_from (alphabet_of plain) 0 (take 64 symbols)
