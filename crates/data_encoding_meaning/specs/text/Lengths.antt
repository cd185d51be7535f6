-- Lengths of texts and of data.
use Rattle.std.specs.Prelude.{ℕ, ◌<◌, ◌≤◌, List, length, ◌-◌, ◌*◌, ◌/◌, ◌%◌, ◌==◌, nat_lt, Bool, not, ◌&&◌, if◌then◌else◌, Option, Some, None, Result, Ok, Err}
use Rattle.data_encoding_meaning.specs.declared.error.DecodeKind.TheVariants.{Length as LengthFault}
use Rattle.data_encoding_meaning.specs.declared.error.DecodeError.{DecodeError}
use Rattle.data_encoding_meaning.specs.text.Base.{Base, Wrapping, is_padded, ignores_some, group_bytes, group_symbols}
use Rattle.data_encoding_meaning.specs.text.Text.{text_of}

-- `true` if `count` symbols are whole bytes followed by fewer bits than a symbol has.
abbrev pub is_valid_count : ℕ → ℕ → Bool
is_valid_count width count = nat_lt (width * count % 8) width

-- The greatest valid count that is at most `count`.
abbrev pub greatest_valid_count : ℕ → ℕ → ℕ
greatest_valid_count width count = count - width * count % 8 / width

-- `true` if a text may have the length `len`. In a padded base the groups of a text are whole.
abbrev pub is_valid_length : Base → ℕ → Bool
is_valid_length base len =
    if is_padded base then len % group_symbols base.width == 0
    else is_valid_count base.width len

-- The greatest valid length that is at most `len`.
abbrev pub greatest_valid_length : Base → ℕ → ℕ
greatest_valid_length base len =
    if is_padded base then len / group_symbols base.width * group_symbols base.width
    else greatest_valid_count base.width len

-- The fault of the length `len`, in a base in which nothing is ignored.
abbrev pub length_fault : Base → ℕ → Option DecodeError
length_fault base len =
    if not (ignores_some base) && not (is_valid_length base len)
    then Some (record { position = greatest_valid_length base len; kind = LengthFault })
    else None

-- The greatest number of bytes that a text of length `len` may mean.
abbrev pub most_bytes : Base → ℕ → ℕ
most_bytes base len =
    if is_padded base then len / group_symbols base.width * group_bytes base.width
    else base.width * len / 8

-- The length, or the fault if there is one.
abbrev pub unless_fault : Option DecodeError → ℕ → Result ℕ DecodeError
unless_fault None len = Ok len
unless_fault (Some fault) len = Err fault

-- The result of `decode_len`: the greatest number of bytes that a text of length `len` may mean, or
-- the fault of that length.
abbrev pub decoded_len : Base → ℕ → Result ℕ DecodeError
decoded_len base len = unless_fault (length_fault base len) (most_bytes base len)

-- The number of bytes of a whole line, or of a whole group if there are no lines.
abbrev pub align_by : Option Wrapping → ℕ → ℕ
align_by None width = group_bytes width
align_by (Some wrapping) width = wrapping.column * width / 8

-- The number of bytes of a block. Data that is cut after whole blocks has the texts of its parts,
-- joined.
abbrev pub alignment : Base → ℕ
alignment base = align_by base.wrapping base.width

-- The text of a block of bytes has at most `len` bytes, and the text of `count` blocks at most
-- `count * len`.
pub record IsBlockLength (base : Base) (len : ℕ) : Type 0 where
  pub some : 0 < alignment base
  pub no_shorter : alignment base ≤ len
  pub few : len ≤ 509
  pub fits : (count : ℕ) (bytes : List ℕ) → length bytes ≤ count * alignment base
      → length (text_of base bytes) ≤ count * len
