-- Entries of a table by the lowest bits of each lane, from rows of sixteen.
use Rattle.std.proofs.Common.{◌≡◌, ℕ, ◌+◌, ◌-◌, ◌%◌, ◌<◌, ◌≤◌, Bool, true, false, not, cond, eqb, List, ◌++◌, length, map, take, drop, get_or, slice_index, replicate, bit_and, w8, refl, ap, ◌∙◌, arith, eqb-true, length-take-le}
use Rattle.std.proofs.lemmas.Bool.{eqb-false}
use Rattle.std.proofs.lemmas.Nat.Bits.{and_high}
use Rattle.std.proofs.lemmas.List.{length-map, get_or-take, get_or-drop}
use Rattle.std.proofs.lemmas.List.FromFn.{get_or-map-range_with_len}
use Rattle.std.proofs.lemmas.Simd.{swz_l, zip2_splat, tops_compared, map-map, pick_l_left}
use Rattle.std.proofs.Math.Nat.{mod-eq_of_lt}
use Rattle.std.specs.List.{AllByRecursion, range_with_len}
use Rattle.std.specs.Simd.Lanes.{zip2, sel_l, top, pick_l, chunk}
use Rattle.data_encoding_kernel.proofs.digits.GatherRowLemmas.{repeated-looked_up, places}
use Rattle.data_encoding_kernel.proofs.digits.LaneLemmas.{select-mapped, map-same}
use Rattle.data_encoding_kernel.proofs.digits.WordLemmas.{map-range-same}
use Rattle.data_encoding_meaning.proofs.lists.EachLemmas.{map-twice}

-- the positions of a row of sixteen, four times
abbrev row_places : List ℕ
row_places = map (λ lane. lane % 16) (range_with_len 0 64)

pub rows-are : (entries : List ℕ) → 16 ≤ length entries
    → pick_l 0 (chunk 0 16 entries ++ chunk 0 16 entries) row_places
    ≡ map (λ lane. slice_index entries (lane % 16)) (range_with_len 0 64)
rows-are entries long =
    let row = chunk 0 16 entries in
    pick_l_left 0 row row 16 row_places (length-take-le 16 entries long) tt
    ∙ map-twice (λ k. get_or row k 0) (λ lane. lane % 16) (range_with_len 0 64)
    ∙ map-range-same (λ lane. get_or row (lane % 16) 0) (λ lane. slice_index entries (lane % 16)) 64
    (λ lane _. get_or-take 16 entries (lane % 16) 0 (omega arith))

-- the entries of the rows at the positions of values
pub in_rows : (entry : ℕ → ℕ) (rows values : List ℕ) → length values ≡ 64
    → rows ≡ map (λ lane. entry (lane % 16)) (range_with_len 0 64)
    → swz_l w8 16 rows 0 (places 64 values) ≡ map (λ value. entry (value % 16)) values
in_rows entry rows values long is =
    repeated-looked_up 4 entry rows values long
    (λ place h. ap (λ l. get_or l place 0) is
    ∙ get_or-map-range_with_len (λ k. entry (k % 16)) 0 64 place place 0 h (omega arith))

-- the test of a bit of each lane
abbrev pub differs : ℕ → ℕ → ℕ
differs a b = cond (not (eqb a b)) 255 0

abbrev has : ℕ → ℕ → Bool
has bit value = not (eqb (bit_and value bit) 0)

abbrev lanes_with : ℕ → List ℕ → List Bool
lanes_with bit values =
    map (top 7) (zip2 differs (zip2 bit_and values (replicate 64 bit)) (replicate 64 0))

lanes_with-are : (bit : ℕ) (values : List ℕ) → length values ≡ 64
    → lanes_with bit values ≡ map (has bit) values
lanes_with-are bit values long =
    let masked = λ (value : ℕ). bit_and value bit in
    let bits : zip2 bit_and values (replicate 64 bit) ≡ map masked values =
    zip2_splat bit_and values 64 bit long in
    let test = λ (a b : ℕ). not (eqb a b) in
    ap (λ l. map (top 7) (zip2 differs l (replicate 64 0))) bits
    ∙ tops_compared w8 test (map masked values) (replicate 64 0)
    ∙ zip2_splat test (map masked values) 64 0 (length-map values masked ∙ long)
    ∙ map-map (λ b. test b 0) masked values

-- by a bit more of each value, from two halves of a table
module _ (bit : ℕ) (entry low high : ℕ → ℕ)
    (set : (value : ℕ) → eqb (bit_and value bit) 0 ≡ false → high value ≡ entry value)
    (clear : (value : ℕ) → eqb (bit_and value bit) 0 ≡ true → low value ≡ entry value) where
  chosen : (value : ℕ) → cond (has bit value) (high value) (low value) ≡ entry value
  chosen value = go (eqb (bit_and value bit) 0) refl
    where
      go : (b : Bool) → eqb (bit_and value bit) 0 ≡ b
          → cond (not b) (high value) (low value) ≡ entry value
      go true e = clear value e
      go false e = set value e

  from_halves : (values highs lows : List ℕ) → length values ≡ 64 → highs ≡ map high values
      → lows ≡ map low values → sel_l (lanes_with bit values) highs lows ≡ map entry values
  from_halves values highs lows long is_high is_low =
      (λ i. sel_l (lanes_with-are bit values long i) (is_high i) (is_low i))
      ∙ select-mapped (has bit) high low values
      ∙ same values
    where
      same : (vs : List ℕ)
          → map (λ value. cond (has bit value) (high value) (low value)) vs ≡ map entry vs
      same vs = ap (λ f. map f vs) (λ i value. chosen value i)

-- an entry of the rest of a table
entry-later : (entries : List ℕ) (start place at : ℕ) → start + place ≡ at
    → start + place < length entries
    → get_or (take (length entries - start) (drop start entries)) place 0 ≡ get_or entries at 0
entry-later entries start place at e h =
    get_or-take (length entries - start) (drop start entries) place 0 (omega (arith, h))
    ∙ get_or-drop start entries place 0 ∙ ap (λ k. get_or entries k 0) e

module _ (entries values highs lows : List ℕ) (long : length values ≡ 64) where
  pub in_thirty_two : 32 ≤ length entries
      → highs ≡ map (λ value. slice_index (take (length entries - 16) (drop 16 entries))
      (value % 16)) values
      → lows ≡ map (λ value. slice_index entries (value % 16)) values
      → sel_l (lanes_with 16 values) highs lows
      ≡ map (λ value. slice_index entries (value % 32)) values
  in_thirty_two room =
      let bit = λ (value : ℕ). and_high value 1 4 in
      from_halves 16 (λ value. slice_index entries (value % 32))
      (λ value. slice_index entries (value % 16))
      (λ value. slice_index (take (length entries - 16) (drop 16 entries)) (value % 16))
      (λ value e. entry-later entries 16 (value % 16) (value % 32)
      (omega (arith, bit value, eqb-false (bit_and value 16) 0 e)) (omega (arith, room)))
      (λ value e.
      ap (λ k. get_or entries k 0) (omega (arith, bit value, eqb-true (bit_and value 16) 0 e)))
      values highs lows long

  pub in_sixty_four : 64 ≤ length entries
      → highs ≡ map (λ value. slice_index (take (length entries - 32) (drop 32 entries))
      (value % 32)) values
      → lows ≡ map (λ value. slice_index entries (value % 32)) values
      → sel_l (lanes_with 32 values) highs lows
      ≡ map (λ value. slice_index entries (value % 64)) values
  in_sixty_four room =
      let bit = λ (value : ℕ). and_high value 1 5 in
      from_halves 32 (λ value. slice_index entries (value % 64))
      (λ value. slice_index entries (value % 32))
      (λ value. slice_index (take (length entries - 32) (drop 32 entries)) (value % 32))
      (λ value e. entry-later entries 32 (value % 32) (value % 64)
      (omega (arith, bit value, eqb-false (bit_and value 32) 0 e)) (omega (arith, room)))
      (λ value e.
      ap (λ k. get_or entries k 0) (omega (arith, bit value, eqb-true (bit_and value 32) 0 e)))
      values highs lows long

-- values below a bound are their own lowest bits
pub by_value : (symbols values : List ℕ) (size bound : ℕ) → bound ≤ size
    → AllByRecursion (λ value. value < bound) values
    → map (λ value. slice_index symbols (value % size)) values ≡ map (slice_index symbols) values
by_value symbols values size bound h =
    map-same (λ value. value < bound) (λ value. slice_index symbols (value % size))
    (slice_index symbols)
    (λ value few. ap (λ k. get_or symbols k 0) (mod-eq_of_lt (omega (arith, h, few)))) values
