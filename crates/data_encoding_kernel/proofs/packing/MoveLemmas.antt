-- The rows of the table of moves.
use Rattle.std.proofs.Common.{◌≡◌, ℕ, ◌/◌, ◌%◌, ◌^◌, ◌<◌, Bool, true, false, eqb, cond, List, [], ◌∷◌, length, map, take, get_or, replicate, refl, sym, ap, ◌∙◌, subst, arith}
use Rattle.std.proofs.lemmas.Bool.Decides.{nat_tests}
use Rattle.std.proofs.lemmas.List.{ext_get_or}
use Rattle.std.proofs.lemmas.List.FromFn.{get_or-map-range_with_len, length-map-range_with_len}
use Rattle.std.proofs.lemmas.Simd.{bit_mask_l, get_or-replicate}
use Rattle.std.specs.Cmp.{first_so, second_so}
use Rattle.std.specs.List.{AllByRecursion, list_all, range_with_len}
use Rattle.std.specs.Simd.Lanes.{digits_l, mask_l}
use Rattle.std.specs.Prelude.{nat_lt}
use Rattle.data_encoding_kernel.specs.Ignore.{picked}

abbrev flags_of : ℕ → List Bool
flags_of mask = map (λ k. eqb (mask / 2 ^ k % 2) 1) (range_with_len 0 8)

one-or-zero : (flag : Bool) → eqb (cond flag 1 0) 1 ≡ flag
one-or-zero true = refl
one-or-zero false = refl

own-flags : (flags : List Bool) → length flags ≡ 8 → flags_of (mask_l flags) ≡ flags
own-flags flags long =
    let bit = λ (k : ℕ). eqb (mask_l flags / 2 ^ k % 2) 1 in
    ext_get_or false (flags_of (mask_l flags)) flags
    (length-map-range_with_len bit 0 8 ∙ sym long)
    (λ k h.
    get_or-map-range_with_len bit 0 8 k k false
    (omega (arith, h, length-map-range_with_len bit 0 8)) (omega arith)
    ∙ ap (λ n. eqb n 1) (bit_mask_l flags k) ∙ one-or-zero (get_or flags k false))

-- the positions that a mask picks
abbrev pub places_of : ℕ → List ℕ
places_of mask = picked (flags_of mask) (range_with_len 0 8)

-- the first bytes of a row, as many as its mask picks
abbrev begin_of : List ℕ → ℕ → List ℕ
begin_of table mask = take (length (places_of mask)) (digits_l 256 8 (get_or table mask 0))

abbrev are_few : List ℕ → ℕ → Bool
are_few table mask = list_all (λ place. nat_lt place 8) (digits_l 256 8 (get_or table mask 0))

-- the entry of a table at a mask
at-mask : {X : Type 0} (f : ℕ → X) (d : X) (mask : ℕ) → mask < 256
    → get_or (map f (range_with_len 0 256)) mask d ≡ f mask
at-mask f d mask h = get_or-map-range_with_len f 0 256 mask mask d h (omega arith)

below : (bound place : ℕ) → nat_lt place bound ≡ true → place < bound
below bound place h = grind (arith, nat_tests)

each-test_below : (bound : ℕ) (places : List ℕ)
    → list_all (λ place. nat_lt place bound) places ≡ true
    → AllByRecursion (λ place. place < bound) places
each-test_below bound [] h = tt
each-test_below bound (place ∷ places) h =
    let others = list_all (λ n. nat_lt n bound) places in (
      below bound place (first_so (nat_lt place bound) others h),
      each-test_below bound places (second_so (nat_lt place bound) others h),
    )

pub row-below : (table : List ℕ)
    → map (are_few table) (range_with_len 0 256) ≡ replicate 256 true
    → (mask : ℕ) → mask < 256
    → AllByRecursion (λ place. place < 8) (digits_l 256 8 (get_or table mask 0))
row-below table few mask h =
    each-test_below 8 (digits_l 256 8 (get_or table mask 0))
    (sym (at-mask (are_few table) false mask h) ∙ ap (λ l. get_or l mask false) few
    ∙ get_or-replicate 256 mask true false h)

pub row-begins : (table : List ℕ)
    → map (begin_of table) (range_with_len 0 256) ≡ map places_of (range_with_len 0 256)
    → (mask : ℕ) → mask < 256 → (flags : List Bool) → length flags ≡ 8 → mask ≡ mask_l flags
    → take (length (picked flags (range_with_len 0 8))) (digits_l 256 8 (get_or table mask 0))
    ≡ picked flags (range_with_len 0 8)
row-begins table begins mask h flags long is =
    let own : flags_of mask ≡ flags = ap flags_of is ∙ own-flags flags long in
    subst (λ l. take (length (picked l (range_with_len 0 8)))
    (digits_l 256 8 (get_or table mask 0)) ≡ picked l (range_with_len 0 8)) own
    (sym (at-mask (begin_of table) [] mask h) ∙ ap (λ l. get_or l mask []) begins
    ∙ at-mask places_of [] mask h)
