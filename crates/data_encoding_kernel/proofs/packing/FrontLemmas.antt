-- The ignored bytes at the start of a part, from the mask of its first sixteen bytes.
use Rattle.std.proofs.Common.{◌≡◌, ℕ, zero, suc, ◌+◌, ◌*◌, ◌%◌, ◌<◌, ◌≤◌, Bool, true, false, not, cond, eqb, List, [], ◌∷◌, length, map, take, replicate, slice_index, refl, sym, ap, ◌∙◌, arith}
use Rattle.std.proofs.lemmas.Bool.Decides.{nat_tests}
use Rattle.std.proofs.lemmas.List.Sums.{prefix_len_passes, prefix_len_stops}
use Rattle.std.proofs.lemmas.Simd.{trailing_mask_l}
use Rattle.std.specs.List.{prefix_len}
use Rattle.std.specs.Prelude.{◌==◌}
use Rattle.std.specs.Simd.Lanes.{mask_l}
use Rattle.data_encoding_meaning.specs.text.Base.{Base, is_ignored, meaning}
use Rattle.data_encoding_meaning.specs.text.Grammar.{kept}
use Rattle.data_encoding_meaning.proofs.decoding.GatherLemmas.{next-ignored}
use Rattle.data_encoding_kernel.specs.declared.ignore.IgnoredBytes.{IgnoredBytes}
use Rattle.data_encoding_kernel.specs.Ignore.{HoldsIgnored, ignored_bit}
use lib.Count.{count_trailing_zeros}

-- the first flag of a mask
first-flag : (flag : Bool) (rest : ℕ) → eqb ((cond flag 1 0 + 2 * rest) % 2) 0 ≡ not flag
first-flag true rest = grind (arith, nat_tests)
first-flag false rest = grind (arith, nat_tests)

-- the bytes that a set keeps
abbrev keeps : IgnoredBytes → ℕ → Bool
keeps ignored byte = ignored_bit ignored byte == 0

pub contains-byte : (base : Base) (ignored : IgnoredBytes) (byte mask : ℕ)
    → HoldsIgnored base ignored → byte < 256
    → mask ≡ mask_l (map (keeps ignored) (replicate 16 byte))
    → eqb (mask % 2) 0 ≡ is_ignored (meaning base byte)
contains-byte base ignored byte mask held fits is =
    ap (λ m. eqb (m % 2) 0) is
    ∙ first-flag (keeps ignored byte) (mask_l (map (keeps ignored) (replicate 15 byte)))
    ∙ sym (held.at_byte byte fits)

-- a mask that is not 0 has a flag
flag-step : (flag : Bool) (mask count len : ℕ) → (0 < mask → count < len)
    → 0 < cond flag 1 0 + 2 * mask → cond (not flag) (1 + count) 0 < 1 + len
flag-step true mask count len rest some = omega arith
flag-step false mask count len rest some = omega (arith, rest (omega (arith, some)))

some-flag : (flag : ℕ → Bool) (bytes : List ℕ) → 0 < mask_l (map flag bytes)
    → prefix_len (λ byte. not (flag byte)) bytes < length bytes
some-flag flag [] some = absurd (omega (arith, some))
some-flag flag (byte ∷ bytes) some =
    omega (
      arith,
      flag-step (flag byte) (mask_l (map flag bytes)) (prefix_len (λ b. not (flag b)) bytes)
          (length bytes) (some-flag flag bytes) some,
    )

-- and one that is 0 has none
flag-none : (flag : Bool) (mask : ℕ) → cond flag 1 0 + 2 * mask ≡ 0
    → (flag ≡ false) × (mask ≡ 0)
flag-none true mask none = absurd (omega (arith, none))
flag-none false mask none = (refl, omega (arith, none))

no-flag : (flag : ℕ → Bool) (bytes : List ℕ) → mask_l (map flag bytes) ≡ 0 → (k : ℕ)
    → k < length bytes → flag (slice_index bytes k) ≡ false
no-flag flag [] none k below = absurd (omega (arith, below))
no-flag flag (byte ∷ bytes) none zero below =
    (flag-none (flag byte) (mask_l (map flag bytes)) none).0
no-flag flag (byte ∷ bytes) none (suc k) below =
    no-flag flag bytes (flag-none (flag byte) (mask_l (map flag bytes)) none).1 k
    (omega (arith, below))

-- bytes that are ignored, one by one
pub none-kept : (base : Base) (part : List ℕ) (count : ℕ) → count ≤ length part
    → ((k : ℕ) → k < count → is_ignored (meaning base (slice_index part k)) ≡ true)
    → kept base (take count part) ≡ []
none-kept base part zero within each = refl
none-kept base part (suc count) within each =
    let one : suc count ≡ count + 1 = omega arith in
    ap (λ n. kept base (take n part)) one
    ∙ next-ignored base part count (omega (arith, within)) (each count (omega arith))
    ∙ none-kept base part count (omega (arith, within)) (λ k below. each k (omega (arith, below)))

-- sixteen bytes, and the mask of those that are kept
module _ (ignored : IgnoredBytes) (part : List ℕ) (sixteen : length part ≡ 16) (mask : ℕ)
    (is : mask ≡ mask_l (map (keeps ignored) part)) where
  abbrev first : ℕ
  first = count_trailing_zeros 64 mask

  module _ (some : 0 < mask) where
    first-is : first ≡ prefix_len (λ byte. not (keeps ignored byte)) part
    first-is =
        ap (count_trailing_zeros 64) is
        ∙ trailing_mask_l (keeps ignored) 64 part (omega (arith, sixteen))
        (omega (arith, some, is))

    pub first-within : first < 16
    first-within =
        omega (
          arith,
          first-is,
          some-flag (keeps ignored) part (omega (arith, some, is)),
          sixteen,
        )

  module _ (base : Base) (held : HoldsIgnored base ignored)
      (fits : (k : ℕ) → slice_index part k < 256) where
    pub all-ignored : mask ≡ 0 → (k : ℕ) → k < 16
        → is_ignored (meaning base (slice_index part k)) ≡ true
    all-ignored none k below =
        held.at_byte (slice_index part k) (fits k)
        ∙ ap not (no-flag (keeps ignored) part (sym is ∙ none) k (omega (arith, below, sixteen)))

    pub before-ignored : 0 < mask → (k : ℕ) → k < first
        → is_ignored (meaning base (slice_index part k)) ≡ true
    before-ignored some k below =
        held.at_byte (slice_index part k) (fits k)
        ∙ prefix_len_passes (λ byte. not (keeps ignored byte)) part k 0
        (omega (arith, below, first-is some))

    pub first-kept : 0 < mask → is_ignored (meaning base (slice_index part first)) ≡ false
    first-kept some =
        held.at_byte (slice_index part first) (fits first)
        ∙ ap (λ n. not (keeps ignored (slice_index part n))) (first-is some)
        ∙ prefix_len_stops (λ byte. not (keeps ignored byte)) part 0
        (omega (arith, sixteen, first-within some, first-is some))
