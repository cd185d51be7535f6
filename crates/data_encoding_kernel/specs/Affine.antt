-- A table that is affine by rows. Each entry is its byte plus a constant of the row, or an entry of
-- one row which several rows share.
use Rattle.std.specs.Prelude.{ℕ, ◌+◌, ◌/◌, ◌%◌, ◌^◌, ◌<◌, ◌==◌, ◌&&◌, ◌||◌, not, nat_le, Bool, true, eqb, if◌then◌else◌, List, [], ◌∷◌, take, slice_index, bit_and}
use Rattle.data_encoding_kernel.specs.declared.simd.decode.affine.Affine.{Affine}
use Rattle.data_encoding_kernel.specs.declared.simd.decode.affine.PlainAffine.{PlainAffine}
use Rattle.data_encoding_kernel.specs.Values.{IsAsciiTable, IsExact, in_row}

-- The bit of each row of sixteen bytes. It is 0 for the rows of bytes from 128 on.
abbrev pub bits_of_rows : List ℕ
bits_of_rows = 1 ∷ 2 ∷ 4 ∷ 8 ∷ 16 ∷ 32 ∷ 64 ∷ 128 ∷ 0 ∷ 0 ∷ 0 ∷ 0 ∷ 0 ∷ 0 ∷ 0 ∷ 0 ∷ []

-- The bit of the row of `byte` if `byte` is a symbol, or else 0.
abbrev pub symbol_bit : Affine → ℕ → ℕ
symbol_bit affine byte = bit_and (in_row affine.symbols 0 byte) (in_row bits_of_rows 0 (byte / 16))

-- The byte plus the constant of its row, modulo 256.
abbrev pub moved_byte : Affine → ℕ → ℕ
moved_byte affine byte = (byte + in_row affine.deltas 0 (byte / 16)) % 2 ^ 8

-- The value of `byte`: the sum of byte and constant if it is below 128, or else the entry of the
-- shared row.
abbrev pub affine_value : Affine → ℕ → ℕ
affine_value affine byte =
    if nat_le 128 (moved_byte affine byte) then in_row affine.shared 0 byte
    else moved_byte affine byte

-- The entry found for `byte`: its value, or 255 if it is not a symbol.
abbrev pub affine_entry : Affine → ℕ → ℕ
affine_entry affine byte =
    if eqb (symbol_bit affine byte) 0 then 255 else affine_value affine byte

-- The entry that the affine form finds for each byte below 128 is exact.
abbrev pub AgreesWith : List ℕ → Affine → Type 0
AgreesWith values affine =
    (byte : ℕ) → byte < 128 → IsExact (affine_entry affine byte) (slice_index values byte)

-- The affine form agrees with the table, whose upper half has no values.
pub record HoldsAffine (values : List ℕ) (affine : Affine) : Type 0 where
  pub agrees : AgreesWith values affine
  pub ascii : IsAsciiTable values

-- The affine form that the plain data describes.
abbrev pub form_of : PlainAffine → Affine
form_of plain = record {
  symbols = plain.symbols;
  deltas = plain.deltas;
  shared = plain.shared;
}

-- `true` if the entry that was found is exact.
abbrev pub is_exact : ℕ → ℕ → Bool
is_exact found entry = (found == entry) || nat_le 128 found && nat_le 128 entry

-- `true` if the entries that the form finds for the bytes from `byte` on are exact.
abbrev pub agrees_from : Affine → ℕ → List ℕ → Bool
agrees_from affine byte [] = true
agrees_from affine byte (entry ∷ entries) =
    is_exact (affine_entry affine byte) entry
    && agrees_from affine (byte + 1) entries

-- `true` if there is no form, or if it agrees with the table.
abbrev pub agrees : List ℕ → PlainAffine → Bool
agrees values plain =
    not plain.is_affine || agrees_from (form_of plain) 0 (take 128 values)
