-- Worked rows of tables that are affine by rows.
use Rattle.std.proofs.Common.{◌≡◌, ℕ, ◌≤◌, true, false, List, [], ◌∷◌, ◌++◌, length, get_or, replicate, refl}
use Rattle.std.specs.List.{range_with_len}
use Rattle.data_encoding_kernel.specs.declared.simd.decode.affine.Affine.{Affine}
use Rattle.data_encoding_kernel.specs.declared.simd.decode.affine.PlainAffine.{PlainAffine}
use Rattle.data_encoding_kernel.specs.Affine.{AgreesWith, affine_entry, affine_value, agrees, agrees_from, bits_of_rows, form_of, is_exact, moved_byte, symbol_bit}
use Rattle.data_encoding_kernel.specs.Values.{in_row}
use Rattle.data_encoding_kernel.proofs.digits.PlainAffineLemmas.{agrees-holds}

-- the digit `5`, byte 53, is in the row from 48 on
row_of_five : in_row (range_with_len 1000 128) 48 53 ≡ 1053
row_of_five = refl

-- digits in the row from 48 on, less 48, and `+` in the shared row: 62
digits_and_plus : Affine
digits_and_plus = record {
  symbols = 8 ∷ 8 ∷ 8 ∷ 8 ∷ 8 ∷ 8 ∷ 8 ∷ 8 ∷ 8 ∷ 8 ∷ 0 ∷ 4 ∷ 0 ∷ 0 ∷ 0 ∷ 0 ∷ [];
  deltas = 0 ∷ 0 ∷ 96 ∷ 208 ∷ 0 ∷ 0 ∷ 0 ∷ 0 ∷ 0 ∷ 0 ∷ 0 ∷ 0 ∷ 0 ∷ 0 ∷ 0 ∷ 0 ∷ [];
  shared = 0 ∷ 0 ∷ 0 ∷ 0 ∷ 0 ∷ 0 ∷ 0 ∷ 0 ∷ 0 ∷ 0 ∷ 0 ∷ 62 ∷ 0 ∷ 0 ∷ 0 ∷ 0 ∷ [];
}

-- the digit `5`, byte 53, in the row with the bit 8, is 5. `+`, byte 43, is 62. `A` is invalid
affine_digits :
    (symbol_bit digits_and_plus 53 ≡ 8)
    × (get_or bits_of_rows 3 0 ≡ 8)
    × (moved_byte digits_and_plus 53 ≡ 5)
    × (moved_byte digits_and_plus 43 ≡ 139)
    × (affine_value digits_and_plus 53 ≡ 5)
    × (affine_entry digits_and_plus 53 ≡ 5)
    × (affine_entry digits_and_plus 43 ≡ 62)
    × (affine_entry digits_and_plus 65 ≡ 255)
unfolding digits_and_plus
affine_digits = (refl, refl, refl, refl, refl, refl, refl, refl)

-- the affine form of digits and `+` as plain data, and the plain data without a form
abbrev plain_digits_and_plus : PlainAffine
plain_digits_and_plus = record {
  symbols = digits_and_plus.symbols;
  deltas = digits_and_plus.deltas;
  shared = digits_and_plus.shared;
  is_affine = true;
}

abbrev no_form : PlainAffine
no_form = record {
  symbols = replicate 16 0;
  deltas = replicate 16 0;
  shared = replicate 16 0;
  is_affine = false;
}

-- the table of the digits and, with this value, of `+`
abbrev values_with_plus : ℕ → List ℕ
values_with_plus plus =
    replicate 43 128 ++ plus ∷ replicate 4 128 ++ range_with_len 0 10 ++ replicate 70 128

-- an entry that was found, another one, and none on one side or both
entries_are_exact :
    (is_exact 9 9 ≡ true)
    × (is_exact 9 8 ≡ false)
    × (is_exact 9 130 ≡ false)
    × (is_exact 255 9 ≡ false)
    × (is_exact 255 130 ≡ true)
entries_are_exact = (refl, refl, refl, refl, refl)

-- from `9` on: 9, and none at `:`. Without a form, any table
forms_agree :
    (form_of plain_digits_and_plus ≡ digits_and_plus)
    × (agrees_from digits_and_plus 57 (9 ∷ 130 ∷ []) ≡ true)
    × (agrees_from digits_and_plus 57 (9 ∷ 7 ∷ []) ≡ false)
    × (agrees (values_with_plus 62) plain_digits_and_plus ≡ true)
    × (agrees (values_with_plus 61) plain_digits_and_plus ≡ false)
    × (agrees (values_with_plus 61) no_form ≡ true)
unfolding digits_and_plus
forms_agree = (refl, refl, refl, refl, refl, refl)

-- a table that agrees with a form has this form
agreeing_table_has_form : (values : List ℕ) → 128 ≤ length values
    → agrees values plain_digits_and_plus ≡ true → AgreesWith values digits_and_plus
agreeing_table_has_form values = agrees-holds digits_and_plus values
