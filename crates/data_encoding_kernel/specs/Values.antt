-- Values of symbols in lanes.
use Rattle.std.specs.Prelude.{◌≡◌, ℕ, ◌+◌, ◌*◌, ◌/◌, ◌%◌, ◌^◌, ◌<◌, nat_le, if◌then◌else◌, List, length, drop, replicate, slice_index}
use Rattle.data_encoding_meaning.specs.declared.encoding.BitOrder.{BitOrder}
use Rattle.data_encoding_kernel.specs.declared.simd.decode.table_rows.Rows.{Rows}
use Rattle.data_encoding_kernel.specs.Words.{weight}

-- The two halves of a lane, of `half` bits each, as two digits of `size` bits in a word.
abbrev pub joined : BitOrder → ℕ → ℕ → ℕ → ℕ
joined order half size lane =
    (lane % 2 ^ half * 2 ^ weight order size 2 0 + lane / 2 ^ half * 2 ^ weight order size 2 1)
    % 2 ^ (half + half)

-- The row is the sixteen entries of a table from index `start` on.
abbrev pub IsRow : List ℕ → ℕ → List ℕ → Type 0
IsRow values start row =
    (k : ℕ) → k < 16 → slice_index row k ≡ slice_index values (start + k)

-- No byte from 128 on is a symbol.
abbrev pub IsAsciiTable : List ℕ → Type 0
IsAsciiTable values = drop 128 values ≡ replicate 128 128

-- The rows are the lower half of the table, and the upper half has no values.
pub record HoldsRows (values : List ℕ) (rows : Rows) : Type 0 where
  pub first : IsRow values 0 rows.first
  pub second : IsRow values 16 rows.second
  pub third : IsRow values 32 rows.third
  pub fourth : IsRow values 48 rows.fourth
  pub fifth : IsRow values 64 rows.fifth
  pub sixth : IsRow values 80 rows.sixth
  pub seventh : IsRow values 96 rows.seventh
  pub eighth : IsRow values 112 rows.eighth
  pub ascii : IsAsciiTable values

-- The entry that was found is exact: it is the entry of the table, or both are 128 or more.
pub record IsExact (found entry : ℕ) : Type 0 where
  pub found_is : found < 128 → found ≡ entry
  pub entry_is : entry < 128 → found ≡ entry

-- The entry that was found for each byte is exact.
abbrev pub AreExact : List ℕ → List ℕ → List ℕ → Type 0
AreExact values bytes found =
    (k : ℕ) → k < length bytes
    → IsExact (slice_index found k) (slice_index values (slice_index bytes k))

-- Each entry of the table below 128 is the value of a symbol of `width` bits.
abbrev pub AreValues : List ℕ → ℕ → Type 0
AreValues values width =
    (byte : ℕ) → byte < 256 → slice_index values byte < 128 → slice_index values byte < 2 ^ width

-- The entry of a row of the table at the lowest four bits of `byte`. The row begins at index
-- `start`.
abbrev pub in_row : List ℕ → ℕ → ℕ → ℕ
in_row values start byte = slice_index values (start + byte % 16)

-- The same for a byte below 128, or else 0.
abbrev pub low_entry : List ℕ → ℕ → ℕ → ℕ
low_entry values start byte = if nat_le 128 byte then 0 else in_row values start byte

-- `f byte` if the highest bit of `byte`, shifted up by `up`, is set, or else `g byte`.
abbrev pub chosen_by : ℕ → (ℕ → ℕ) → (ℕ → ℕ) → ℕ → ℕ
chosen_by up f g byte = if nat_le 128 (byte * 2 ^ up % 2 ^ 8) then f byte else g byte
