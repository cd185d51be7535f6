-- The greatest valid length.
use Rattle.std.proofs.Common.{◌≡◌, ℕ, ◌*◌, ◌/◌, ◌%◌, ◌<◌, ◌≤◌, true, false, arith}
use Rattle.std.proofs.lemmas.Bool.Decides.{nat_tests}
use Rattle.data_encoding_meaning.specs.text.Base.{Base, group_symbols, IsWidth}
use Rattle.data_encoding_meaning.specs.text.Lengths.{greatest_valid_count, is_valid_length, greatest_valid_length}
use Rattle.data_encoding_meaning.proofs.digits.WidthLemmas.{by_width}

-- the greatest number of symbols that are whole groups
abbrev whole_count : ℕ → ℕ → ℕ
whole_count width count = count / group_symbols width * group_symbols width

-- This many symbols, in whole groups, or with a last group that may be shorter.
record HasGreatest (width : ℕ) : Type 0 where
  whole_more : (m n : ℕ) → m ≤ n → whole_count width m ≤ whole_count width n
  whole_least : (n : ℕ) → whole_count width n ≤ n
  whole_again : (n : ℕ) → whole_count width n % group_symbols width ≡ 0
  whole_same : (n : ℕ) → n % group_symbols width ≡ 0 → whole_count width n ≡ n
  count_more : (m n : ℕ) → m ≤ n → greatest_valid_count width m ≤ greatest_valid_count width n
  count_again : (n : ℕ) → width * greatest_valid_count width n % 8 < width
  count_same : (n : ℕ) → width * n % 8 < width → greatest_valid_count width n ≡ n

has_greatest : (width : ℕ) → IsWidth width → HasGreatest width
has_greatest =
    by_width HasGreatest (omega arith) (omega arith) (omega arith) (omega arith) (omega arith)
    (omega arith)

module _ (base : Base) (width : IsWidth base.width) where
  greatest : HasGreatest base.width
  greatest = has_greatest base.width width

  pub greatest-least : (n : ℕ) → greatest_valid_length base n ≤ n
  greatest-least n = grind (arith, greatest.whole_least n)

  -- that of a greater length is not less
  pub greatest-more : (m n : ℕ) → m ≤ n
      → greatest_valid_length base m ≤ greatest_valid_length base n
  greatest-more m n h = grind (arith, greatest.whole_more m n h, greatest.count_more m n h)

  -- it is valid
  pub greatest-valid : (n : ℕ) → is_valid_length base (greatest_valid_length base n) ≡ true
  greatest-valid n = grind (arith, nat_tests, greatest.whole_again n, greatest.count_again n)

  -- that of a valid length is the length
  pub greatest-same : (n : ℕ) → is_valid_length base n ≡ true → greatest_valid_length base n ≡ n
  greatest-same n valid = grind (arith, nat_tests, greatest.whole_same n, greatest.count_same n)

  -- that of another is less
  pub greatest-less : (n : ℕ) → is_valid_length base n ≡ false → greatest_valid_length base n < n
  greatest-less n invalid =
      let valid = greatest-valid n in
      let least = greatest-least n in
      grind arith
