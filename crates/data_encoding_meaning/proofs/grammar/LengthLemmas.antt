-- The fault of a length, for every base.
use Rattle.std.proofs.Common.{◌≡◌, ℕ, ◌*◌, ◌/◌, ◌%◌, ◌==◌, ◌⊎◌, Bool, true, false, cond, None, Ok, Err, ◌<◌, ◌≤◌, nat_lt, arith}
use Rattle.std.proofs.lemmas.Bool.Decides.{nat_tests}
use Rattle.std.proofs.Math.Nat.{mod-eq_of_lt, mod_self}
use Rattle.data_encoding_meaning.specs.declared.error.DecodeKind.TheVariants.{Length as LengthFault}
use Rattle.data_encoding_meaning.specs.text.Base.{Base, is_padded, ignores_some, group_bytes, group_symbols, IsWidth}
use Rattle.data_encoding_meaning.specs.text.Lengths.{decoded_len, greatest_valid_count, greatest_valid_length, is_valid_count, is_valid_length, length_fault, most_bytes}

-- the six, for a search
pub widths : (width : ℕ) → IsWidth width
    → (width ≡ 1) ⊎ (width ≡ 2) ⊎ (width ≡ 3) ⊎ (width ≡ 4) ⊎ (width ≡ 5) ⊎ (width ≡ 6)
widths width is = grind arith

module _ (base : Base) (len : ℕ) where
  pub length_fault-none : (ignores_some base ≡ false → is_valid_length base len ≡ true)
      → length_fault base len ≡ None
  length_fault-none h = grind arith

  pub length_fault-valid : length_fault base len ≡ None → ignores_some base ≡ false
      → is_valid_length base len ≡ true
  length_fault-valid h none = grind arith

  module _ (b : Bool) (padded : is_padded base ≡ b) where
    pub is_valid_length-by : is_valid_length base len
        ≡ cond b (len % group_symbols base.width == 0) (is_valid_count base.width len)
    is_valid_length-by = rw padded

    pub most_bytes-by : most_bytes base len
        ≡ cond b (len / group_symbols base.width * group_bytes base.width) (base.width * len / 8)
    most_bytes-by = rw padded

    pub greatest_valid_length-by : greatest_valid_length base len
        ≡ cond b (len / group_symbols base.width * group_symbols base.width)
        (greatest_valid_count base.width len)
    greatest_valid_length-by = rw padded

  -- how many bytes are due
  pub decoded_len-valid : is_valid_length base len ≡ true
      → decoded_len base len ≡ Ok (most_bytes base len)
  decoded_len-valid valid = grind arith

  pub decoded_len-invalid : ignores_some base ≡ false → is_valid_length base len ≡ false
      → decoded_len base len
      ≡ Err (record { position = greatest_valid_length base len; kind = LengthFault })
  decoded_len-invalid none invalid = grind arith

  pub decoded_len-counted : (count : ℕ) → decoded_len base len ≡ Ok count
      → (length_fault base len ≡ None) × (most_bytes base len ≡ count)
  decoded_len-counted count h = grind arith

-- the length of whole groups is valid
pub whole-length : (base : Base) → IsWidth base.width → (len : ℕ)
    → len % group_symbols base.width ≡ 0 → is_valid_length base len ≡ true
whole-length base width len exact = grind (arith, nat_tests, widths base.width width)

-- so a group of no valid length is not whole
pub whole-less : (base : Base) → IsWidth base.width → (len : ℕ) → len ≤ group_symbols base.width
    → is_valid_length base len ≡ false → len < group_symbols base.width
whole-less base width len few invalid =
    grind (arith, nat_tests, whole-length base width len, mod_self (group_symbols base.width))

-- and a padded one of a valid length is
pub valid-whole : (base : Base) (len : ℕ) → 0 < len → is_valid_length base len ≡ true
    → cond (is_padded base) (nat_lt len (group_symbols base.width) ≡ false)
    (is_valid_count base.width len ≡ true)
valid-whole base len some valid =
    grind (arith, nat_tests, mod-eq_of_lt)

-- The bits of symbols are whole bytes if and only if their groups are whole.
pub whole_bits : (width : ℕ) → IsWidth width → (len : ℕ)
    → (width * len % 8 == 0) ≡ (len % group_symbols width == 0)
whole_bits width is len = grind (arith, nat_tests, widths width is)

-- Bytes of a valid length are those of its bits.
pub most_bytes-valid : (base : Base) → IsWidth base.width → (width len : ℕ) → width ≡ base.width
    → is_valid_length base len ≡ true → width * len / 8 ≡ most_bytes base len
most_bytes-valid base is_width width len same valid =
    grind (arith, nat_tests, widths base.width is_width)
