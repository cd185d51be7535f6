-- Symbols as sums, at values in lanes.
use Rattle.std.proofs.Common.{◌≡◌, ℕ, zero, suc, ◌+◌, ◌-◌, ◌*◌, ◌/◌, ◌%◌, ◌^◌, ◌<◌, ◌≤◌, ◌==◌, Bool, true, false, cond, eqb, leb, ltb, List, [], ◌∷◌, ◌++◌, length, map, get_or, slice_index, replicate, Fits, w8, refl, sym, ap, ◌∙◌, subst, arith, ltb-true, ltb-false, take, length-take-le, ⊎_elim}
use Rattle.std.proofs.lemmas.Bool.{cases_lt, cond_above, cond_below, le-leb, lt-leb}
use Rattle.std.proofs.lemmas.Bool.Decides.{nat_tests}
use Rattle.std.proofs.lemmas.List.{length-map, get_or-map, get_or-take, ext_get_or, map-id}
use Rattle.std.proofs.lemmas.List.FromFn.{length-map-range_with_len}
use Rattle.std.proofs.lemmas.Simd.{swz_l, SwzOk, SwzOk-from_below, length-swz_l, get_or-swz_l_below, tops_compared, zip2_splat_left, zip2_of_maps, splat_is_map, length-chunk, map-map}
use Rattle.std.specs.Cmp.{first_so, second_so}
use Rattle.std.specs.List.{AllByRecursion, range_with_len}
use Rattle.std.specs.Simd.Lanes.{Each1, chunk, zip2, sel_l, pick_l, top}
use Rattle.data_encoding_kernel.specs.declared.simd.encode.offset_alphabet.OffsetAlphabet.{OffsetAlphabet}
use Rattle.data_encoding_kernel.specs.OffsetAlphabet.{HoldsOffsetAlphabet, offset_symbol, first_of, sums_from}
use Rattle.data_encoding_kernel.proofs.digits.AffineLemmas.{chosen-equal, function-at, equal, lanes-from_function}
use Rattle.data_encoding_kernel.proofs.digits.GatherRowLemmas.{at_most, repeated-row, repeats}
use Rattle.data_encoding_kernel.proofs.digits.LaneLemmas.{select-mapped}
use Rattle.data_encoding_meaning.proofs.lists.EachLemmas.{all-at}
use Rattle.data_encoding_meaning.proofs.lists.RepeatLemmas.{get_or-repeats}

abbrev plus : ℕ → ℕ → ℕ
plus a b = (a + b) % 2 ^ 8

abbrev minus : ℕ → ℕ → ℕ
minus a b = (a + (2 ^ 8 - b)) % 2 ^ 8

abbrev is_less : ℕ → ℕ → ℕ
is_less a b = cond (ltb a b) 255 0

-- a saturating difference: the larger one, less the second
one-excess : (a b : ℕ) → a < 256 → b < 256
    → minus (cond (top 7 (is_less a b)) b a) b ≡ a - b
one-excess a b h k = go (ltb a b) refl
  where
    go : (t : Bool) → ltb a b ≡ t → minus (cond (top 7 (cond t 255 0)) b a) b ≡ a - b
    go true e = omega (arith, ltb-true a b e)
    go false e = omega (arith, ltb-false a b e, h, k)

abbrev excesses : ℕ → ℕ → List ℕ → List ℕ
excesses count b values =
    zip2 minus (sel_l (map (top 7) (zip2 is_less values (replicate count b)))
    (replicate count b) values) (replicate count b)

excesses-are : (b : ℕ) → b < 256 → (values : List ℕ) → Each1 (Fits w8) values
    → excesses (length values) b values ≡ map (λ value. value - b) values
excesses-are b h [] fits = refl
excesses-are b h (value ∷ values) fits =
    λ i. one-excess value b fits.0.fits h i ∷ excesses-are b h values fits.1 i

pub excesses-of : (count b : ℕ) → b < 256 → (values : List ℕ) → length values ≡ count
    → Each1 (Fits w8) values → excesses count b values ≡ map (λ value. value - b) values
excesses-of count b h values long fits =
    subst (λ n. excesses n b values ≡ map (λ value. value - b) values) long
    (excesses-are b h values fits)

each-below : (limit : ℕ) (places : List ℕ) → AllByRecursion (λ place. place < limit) places
    → Each1 (λ place. place < limit) places
each-below limit [] all = tt
each-below limit (place ∷ places) all = (all.0, each-below limit places all.1)

pub places-within : (places : List ℕ) → length places ≡ 64
    → AllByRecursion (λ place. place < 16) places → SwzOk w8 16 64 0 places
places-within places long below =
    SwzOk-from_below w8 16 4 64 0 places refl (omega (arith, long)) (each-below 16 places below)

-- the entries of a row at the given places
pub row-at_places : (row places : List ℕ) → length row ≡ 16 → length places ≡ 64
    → AllByRecursion (λ place. place < 16) places
    → swz_l w8 16 (pick_l 0 (row ++ row) (repeats 4 (range_with_len 0 16))) 0 places
    ≡ map (slice_index row) places
row-at_places row places sixteen long below =
    ap (λ l. swz_l w8 16 l 0 places) (repeated-row 4 row sixteen)
    ∙ ext_get_or 0 (swz_l w8 16 (repeats 4 row) 0 places) (map (slice_index row) places)
    (length-swz_l w8 16 (repeats 4 row) 0 places ∙ sym (length-map places (slice_index row)))
    (λ i h.
    let within : i < length places =
    omega (arith, h, length-swz_l w8 16 (repeats 4 row) 0 places) in
    let small : get_or places i 0 < 16 = all-at (λ place. place < 16) places below i within in
    let at = 16 * ((0 + i) / 16) + get_or places i 0 in
    let inside : at < 4 * 16 = omega (arith, small, within, long) in
    let place : at % 16 ≡ get_or places i 0 = omega (arith, small) in
    get_or-swz_l_below w8 16 (repeats 4 row) 0 places i within small
    ∙ get_or-repeats 4 row at (subst (λ n. at < 4 * n) (sym sixteen) inside)
    ∙ ap (λ n. get_or row (at % n) 0) sixteen
    ∙ ap (λ n. get_or row n 0) place
    ∙ sym (get_or-map (slice_index row) places i 0 0 within))

-- the additional offsets of the values below a bound
pub firsts-are : (alphabet : OffsetAlphabet) (values : List ℕ) → length values ≡ 64
    → sel_l (map (top 7) (zip2 at_most (replicate 64 alphabet.bound) values))
    (replicate 64 0) (replicate 64 alphabet.first)
    ≡ map (first_of alphabet) values
firsts-are alphabet values long =
    let others = leb alphabet.bound in
    let tests : map (top 7) (zip2 at_most (replicate 64 alphabet.bound) values) ≡ map others values
    =
    tops_compared w8 leb (replicate 64 alphabet.bound) values
    ∙ zip2_splat_left leb alphabet.bound 64 values long in
    (λ i. sel_l (tests i) (splat_is_map values 64 0 long i)
    (splat_is_map values 64 alphabet.first long i))
    ∙ select-mapped others (λ _. 0) (λ _. alphabet.first) values
    ∙ ap (λ f. map f values) (λ i value. first-of value i)
  where
    first-of : (value : ℕ) → cond (leb alphabet.bound value) 0 alphabet.first
        ≡ first_of alphabet value
    first-of value =
        ⊎_elim
        (λ (low : value < alphabet.bound).
        (λ i. cond (lt-leb alphabet.bound value low i) 0 alphabet.first)
        ∙ cond_below value alphabet.bound alphabet.first 0 low)
        (λ (high : alphabet.bound ≤ value).
        (λ i. cond (le-leb alphabet.bound value high i) 0 alphabet.first)
        ∙ cond_above value alphabet.bound alphabet.first 0 0 high refl)
        (cases_lt value alphabet.bound)

-- and the sums
pub sums-are : (alphabet : OffsetAlphabet) (values : List ℕ) {places numbers firsts : List ℕ}
    → places ≡ map (λ value. value - 48) values → numbers ≡ map (slice_index alphabet.last) places
    → firsts ≡ map (first_of alphabet) values
    → zip2 plus (zip2 plus values numbers) firsts ≡ map (offset_symbol alphabet) values
sums-are alphabet values {places} {numbers} {firsts} at_places at_numbers at_firsts =
    let own : values ≡ map (λ (value : ℕ). value) values = sym (map-id values) in
    let number = λ (value : ℕ). slice_index alphabet.last (value - 48) in
    let numbers_are : numbers ≡ map number values =
    at_numbers ∙ ap (map (slice_index alphabet.last)) at_places
    ∙ map-map (slice_index alphabet.last) (λ value. value - 48) values in
    zip2_of_maps plus (λ value. plus value (number value)) (first_of alphabet) values
    (zip2_of_maps plus (λ value. value) number values own numbers_are) at_firsts

-- the places of values are below sixteen
pub places-few : (values : List ℕ) → AllByRecursion (λ value. value < 64) values
    → AllByRecursion (λ place. place < 16) (map (λ value. value - 48) values)
places-few [] below = tt
places-few (value ∷ values) below =
    (omega (arith, below.0), places-few values below.1)

-- the values from a number on
range-below : (limit start count : ℕ) → start + count < limit + 1
    → AllByRecursion (λ value. value < limit) (range_with_len start count)
range-below limit start zero h = tt
range-below limit start (suc count) h =
    (omega (arith, h), range-below limit (start + 1) count (omega (arith, h)))

pub range-below_64 : AllByRecursion (λ value. value < 64) (range_with_len 0 64)
range-below_64 = range-below 64 0 64 (omega arith)

same-lane : (one other : ℕ) → cond (eqb one other) 0 1 < 1 → one ≡ other
same-lane one other passes = grind (arith, nat_tests)

is-same : (one other : ℕ) → one ≡ other → (one == other) ≡ true
is-same one other same = grind (arith, nat_tests)

nat_eq-true : (one other : ℕ) → (one == other) ≡ true → one ≡ other
nat_eq-true one other same = grind (arith, nat_tests)

-- each sum is the symbol if no lane differs
pub holds-if_equal : (alphabet : OffsetAlphabet) (symbols values found : List ℕ)
    → length symbols ≡ 256 → values ≡ range_with_len 0 64
    → found ≡ map (offset_symbol alphabet) values
    → AllByRecursion (λ lane. lane < 1)
    (sel_l (map (top 7) (zip2 equal found (chunk 0 64 (take 64 symbols))))
    (replicate 64 0) (replicate 64 1))
    → HoldsOffsetAlphabet symbols alphabet
holds-if_equal alphabet symbols values found long are_values are_found passes = record {
  agrees = λ value h.
      let places = range_with_len 0 64 in
      let own = slice_index symbols in
      let lane : ℕ → ℕ = λ j. cond (eqb (offset_symbol alphabet j) (own j)) 0 1 in
      let found_are : found ≡ map (offset_symbol alphabet) places =
      are_found ∙ ap (map (offset_symbol alphabet)) are_values in
      let own_are : chunk 0 64 (take 64 symbols) ≡ map own places =
      lanes-from_function own 64 (chunk 0 64 (take 64 symbols))
      (length-chunk 0 64 (take 64 symbols)
      (omega (arith, length-take-le 64 symbols (omega (arith, long)))))
      (λ k k_h. get_or-take 64 (take 64 symbols) k 0 k_h ∙ get_or-take 64 symbols k 0 k_h) in
      let lanes_are =
      chosen-equal (offset_symbol alphabet) own (λ _. 0) (λ _. 1) places (replicate 64 0)
      (replicate 64 1) found_are own_are (splat_is_map places 64 0 refl)
      (splat_is_map places 64 1 refl) in
      let inside : value < length (map lane places) =
      omega (arith, h, length-map-range_with_len lane 0 64) in
      same-lane (offset_symbol alphabet value) (own value)
      (subst (λ n. n < 1) (function-at lane 64 value h)
      (all-at (λ n. n < 1) (map lane places)
      (subst (AllByRecursion (λ n. n < 1)) lanes_are passes) value inside));
}

-- the form as plain data: the test of its sums
module _ (alphabet : OffsetAlphabet) where
  sums-at : (value : ℕ) (symbols : List ℕ) → sums_from alphabet value symbols ≡ true → (k : ℕ)
      → k < length symbols → offset_symbol alphabet (value + k) ≡ slice_index symbols k
  sums-at value [] h k few = absurd (omega (arith, few))
  sums-at value (symbol ∷ symbols) h zero few =
      let here : value + 0 ≡ value = omega arith in
      rw here (nat_eq-true (offset_symbol alphabet value) symbol
      (first_so (offset_symbol alphabet value == symbol) (sums_from alphabet (value + 1) symbols)
      h))
  sums-at value (symbol ∷ symbols) h (suc k) few =
      let next : value + suc k ≡ value + 1 + k = omega arith in
      rw next (sums-at (value + 1) symbols
      (second_so (offset_symbol alphabet value == symbol)
      (sums_from alphabet (value + 1) symbols) h)
      k (omega (arith, few)))

  summed-from : (value : ℕ) (symbols : List ℕ)
      → ((k : ℕ) → k < length symbols
      → offset_symbol alphabet (value + k) ≡ slice_index symbols k)
      → sums_from alphabet value symbols ≡ true
  summed-from value [] each = refl
  summed-from value (symbol ∷ symbols) each =
      let here : value + 0 ≡ value = omega arith in
      let first : (offset_symbol alphabet value == symbol) ≡ true =
      is-same (offset_symbol alphabet value) symbol (rw here at (each 0 (omega arith))) in
      let others : sums_from alphabet (value + 1) symbols ≡ true =
      summed-from (value + 1) symbols
      (λ k few.
      let next : value + suc k ≡ value + 1 + k = omega arith in
      rw next at (each (suc k) (omega (arith, few)))) in
      rw (first, others) refl

  -- the test passes exactly if the form is right for the table
  pub sums-hold : (symbols : List ℕ) → 64 ≤ length symbols
      → sums_from alphabet 0 (take 64 symbols) ≡ true → HoldsOffsetAlphabet symbols alphabet
  sums-hold symbols long h = record {
    agrees = λ value few.
        let here : 0 + value ≡ value = omega arith in
        let found = sums-at 0 (take 64 symbols) h value
        (omega (arith, few, length-take-le 64 symbols long)) in
        (rw here at found) ∙ get_or-take 64 symbols value 0 few;
  }

  pub holds-sums : (symbols : List ℕ) → 64 ≤ length symbols
      → HoldsOffsetAlphabet symbols alphabet → sums_from alphabet 0 (take 64 symbols) ≡ true
  holds-sums symbols long held =
      summed-from 0 (take 64 symbols)
      (λ value inside.
      let here : 0 + value ≡ value = omega arith in
      let few : value < 64 = omega (arith, inside, length-take-le 64 symbols long) in
      rw (here, get_or-take 64 symbols value 0 few) (held.agrees value few))
