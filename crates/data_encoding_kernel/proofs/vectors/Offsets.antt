-- Worked rows of alphabets by offsets.
use Rattle.std.proofs.Common.{◌≡◌, ℕ, ◌≤◌, true, false, List, [], ◌∷◌, ◌++◌, length, replicate, refl}
use Rattle.std.specs.List.{range_with_len}
use Rattle.data_encoding_kernel.specs.declared.simd.encode.offset_alphabet.OffsetAlphabet.{OffsetAlphabet}
use Rattle.data_encoding_kernel.specs.declared.simd.encode.offset_alphabet.PlainOffsets.{PlainOffsets}
use Rattle.data_encoding_kernel.specs.OffsetAlphabet.{HoldsOffsetAlphabet, alphabet_of, first_of, has_sums, offset_symbol, sums_from}
use Rattle.data_encoding_kernel.proofs.digits.OffsetAlphabetLemmas.{sums-hold}

-- the alphabet of base64: `A` to `Z` have the first two offsets, `a` to `z` one of them
abbrev base64_alphabet : OffsetAlphabet
base64_alphabet = record {
  last = replicate 4 71 ++ replicate 10 252 ++ 237 ∷ 240 ∷ [];
  bound = 26;
  first = 250;
}

-- `A`, `Z`, `a`, `z`, `0`, `9`, `+` and `/`
symbols_by_offsets :
    (first_of base64_alphabet 25 ≡ 250)
    × (first_of base64_alphabet 26 ≡ 0)
    × (offset_symbol base64_alphabet 0 ≡ 65)
    × (offset_symbol base64_alphabet 25 ≡ 90)
    × (offset_symbol base64_alphabet 26 ≡ 97)
    × (offset_symbol base64_alphabet 51 ≡ 122)
    × (offset_symbol base64_alphabet 52 ≡ 48)
    × (offset_symbol base64_alphabet 61 ≡ 57)
    × (offset_symbol base64_alphabet 62 ≡ 43)
    × (offset_symbol base64_alphabet 63 ≡ 47)
symbols_by_offsets = (refl, refl, refl, refl, refl, refl, refl, refl, refl, refl)

-- the offsets as plain data, and the plain data without offsets
abbrev plain_base64 : PlainOffsets
plain_base64 = record {
  last = base64_alphabet.last;
  bound = 26;
  first = 250;
  has_offsets = true;
}

abbrev no_offsets : PlainOffsets
no_offsets = record { last = replicate 16 0; bound = 0; first = 0; has_offsets = false }

-- the symbols of base64, with this one for 63
abbrev symbols_with : ℕ → List ℕ
symbols_with final =
    range_with_len 65 26 ++ range_with_len 97 26 ++ range_with_len 48 10 ++ 43 ∷ final ∷ []

-- from 61 on: `9`, `+`, `/`. Without offsets, any table
offsets_agree :
    (alphabet_of plain_base64 ≡ base64_alphabet)
    × (sums_from base64_alphabet 61 (57 ∷ 43 ∷ 47 ∷ []) ≡ true)
    × (sums_from base64_alphabet 61 (57 ∷ 47 ∷ 43 ∷ []) ≡ false)
    × (has_sums (symbols_with 47) plain_base64 ≡ true)
    × (has_sums (symbols_with 95) plain_base64 ≡ false)
    × (has_sums (symbols_with 95) no_offsets ≡ true)
offsets_agree = (refl, refl, refl, refl, refl, refl)

-- a table that agrees with offsets has these offsets
agreeing_table_has_offsets : (symbols : List ℕ) → 64 ≤ length symbols
    → has_sums symbols plain_base64 ≡ true
    → HoldsOffsetAlphabet symbols base64_alphabet
agreeing_table_has_offsets symbols = sums-hold base64_alphabet symbols
