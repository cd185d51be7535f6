-- Entries of a table at bytes in lanes, from rows of sixteen, and the test of them all.
use Rattle.std.proofs.Common.{◌≡◌, ℕ, zero, suc, ◌+◌, ◌-◌, ◌*◌, ◌/◌, ◌%◌, ◌^◌, ◌<◌, ◌≤◌, Bool, true, false, not, cond, eqb, leb, ltb, ◌||◌, Fits, List, [], ◌∷◌, ◌++◌, length, map, take, drop, get_or, slice_index, replicate, bit_and, bit_or, w8, refl, sym, ap, ◌∙◌, subst, arith, eqb-true, leb-false, length-append, ⊎_elim}
use Rattle.std.proofs.lemmas.Bool.{cases_lt, le-leb, leb-true, lt-leb, lt-ltb}
use Rattle.std.proofs.lemmas.Bool.Decides.{nat_tests}
use Rattle.std.proofs.lemmas.Nat.{and_block, and_mask, and_le_r, le_or_r}
use Rattle.std.proofs.lemmas.Nat.Bits.{and_high}
use Rattle.std.proofs.lemmas.List.{get_or-replicate, length-map, get_or-map, get_or-take, get_or-drop, ext_get_or, map-append, take_at}
use Rattle.std.proofs.lemmas.Simd.{swz_l, SwzOk, SwzOk-from_Each1, SwzOk-from_below, get_or-swz_l, length-swz_l, get_or-swz_l_below, zip2_splat, zip2_splat_left, tops_compared, Each1-all, Each1-get_or, Each1-zip2, Each2-splat, map-map, mask_l-mod, pick_l-range_with_len, trailing_mask_l}
use Rattle.std.proofs.lemmas.List.Sums.{prefix_len-le-length, prefix_len_passes, prefix_len_stops}
use Rattle.std.specs.Bool.{IsTrue}
use Rattle.std.specs.Int.Bits.{or_zero_r}
use Rattle.std.specs.List.{AllByRecursion, concat, range_with_len}
use Rattle.std.specs.Simd.Lanes.{Each1, zip2, sel_l, mask_l, pick_l, top}
use Rattle.std.specs.List.{prefix_len}
use lib.Count.{count_trailing_zeros}
use lib.Dec.{T}
use Rattle.data_encoding_kernel.specs.Values.{AreExact, IsAsciiTable, IsExact, IsRow, chosen_by, in_row, low_entry}
use Rattle.data_encoding_kernel.proofs.digits.LaneLemmas.{select-mapped}
use Rattle.data_encoding_meaning.proofs.lists.RepeatLemmas.{get_or-repeats}

abbrev pub repeats : ℕ → List ℕ → List ℕ
repeats times xs = concat (replicate times xs)

-- no lane is at least the limit
below-first : (limit lane rest : ℕ) → cond (leb limit lane) 1 0 + 2 * rest ≡ 0
    → (lane < limit) × (rest ≡ 0)
below-first limit lane rest e = grind (arith, nat_tests)

-- a mask that is 0 if no lane is at least the limit
clear-first : (limit lane rest : ℕ) → lane < limit → rest ≡ 0
    → cond (leb limit lane) 1 0 + 2 * rest ≡ 0
clear-first limit lane rest low none = grind (arith, nat_tests)

clear-mask : (limit : ℕ) (lanes : List ℕ)
    → ((k : ℕ) → k < length lanes → slice_index lanes k < limit)
    → mask_l (map (leb limit) lanes) ≡ 0
clear-mask limit [] each = refl
clear-mask limit (lane ∷ lanes) each =
    clear-first limit lane (mask_l (map (leb limit) lanes)) (each 0 (omega arith))
    (clear-mask limit lanes (λ k h. each (suc k) (omega (arith, h))))

below-by_mask : (limit : ℕ) (lanes : List ℕ) → mask_l (map (leb limit) lanes) ≡ 0
    → AllByRecursion (λ lane. lane < limit) lanes
below-by_mask limit [] e = tt
below-by_mask limit (lane ∷ lanes) e =
    let first = below-first limit lane (mask_l (map (leb limit) lanes)) e in
    (first.0, below-by_mask limit lanes first.1)

abbrev pub at_most : ℕ → ℕ → ℕ
at_most a b = cond (leb a b) 255 0

true-twice : (b : Bool) → IsTrue (not (not b)) → b ≡ true
true-twice true h = refl
true-twice false h = h

-- the lanes at least the limit, as a mask
abbrev pub mask_of : ℕ → ℕ → List ℕ → ℕ
mask_of limit count lanes =
    mask_l (map (top 7) (zip2 at_most (replicate count limit) lanes)) % 18446744073709551616

module _ (limit count : ℕ) (lanes : List ℕ) (long : length lanes ≡ count) (few : count ≤ 64) where
  pub mask-is : mask_of limit count lanes ≡ mask_l (map (leb limit) lanes)
  mask-is =
      ap (λ l. mask_l l % 18446744073709551616)
      (tops_compared w8 leb (replicate count limit) lanes
      ∙ zip2_splat_left leb limit count lanes long)
      ∙ mask_l-mod (map (leb limit) lanes) 64
      (omega (arith, length-map lanes (leb limit), long, few))

  pub none-above : mask_of limit count lanes ≡ 0 → AllByRecursion (λ lane. lane < limit) lanes
  none-above none = below-by_mask limit lanes (sym mask-is ∙ none)

  first-above : (mask_of limit count lanes ≡ 0 → ⊥)
      → count_trailing_zeros 64 (mask_of limit count lanes)
      ≡ prefix_len (λ lane. not (leb limit lane)) lanes
  first-above some =
      let more : 0 < mask_l (map (leb limit) lanes) = omega (arith, mask-is, some) in
      ap (count_trailing_zeros 64) mask-is
      ∙ trailing_mask_l (leb limit) 64 lanes (omega (arith, long, few)) more

  -- how many lanes come before the first that is at least the limit
  pub few-before : (mask_of limit count lanes ≡ 0 → ⊥)
      → count_trailing_zeros 64 (mask_of limit count lanes) ≤ count
  few-before some =
      omega (
        arith,
        first-above some,
        prefix_len-le-length (λ lane. not (leb limit lane)) lanes,
        long,
      )

  pub below-before : (mask_of limit count lanes ≡ 0 → ⊥) → (k : ℕ)
      → k < count_trailing_zeros 64 (mask_of limit count lanes) → slice_index lanes k < limit
  below-before some k h =
      let passes = prefix_len_passes (λ lane. not (leb limit lane)) lanes k 0
      (omega (arith, h, first-above some)) in
      let lane = slice_index lanes k in
      grind (arith, nat_tests, passes)

  -- the lane after these
  pub stops-before : (mask_of limit count lanes ≡ 0 → ⊥)
      → count_trailing_zeros 64 (mask_of limit count lanes) < count
      → limit ≤ slice_index lanes (count_trailing_zeros 64 (mask_of limit count lanes))
  stops-before some less =
      let first = first-above some in
      let stops = prefix_len_stops (λ lane. not (leb limit lane)) lanes 0
      (omega (arith, less, first, long)) in
      let lane = get_or lanes (prefix_len (λ lane. not (leb limit lane)) lanes) 0 in
      let high : limit ≤ lane = grind (arith, nat_tests, stops) in
      subst (λ k. limit ≤ slice_index lanes k) (sym first) high

  pub none-if_below : ((k : ℕ) → k < count → slice_index lanes k < limit)
      → IsTrue (not (not (eqb (mask_of limit count lanes) 0)))
  none-if_below each =
      subst (λ n. IsTrue (not (not (eqb n 0))))
      (sym (mask-is ∙ clear-mask limit lanes (λ k h. each k (omega (arith, h, long))))) refl

pub all-below : (limit count : ℕ) (lanes : List ℕ) → length lanes ≡ count → count ≤ 64
    → IsTrue (not (not (eqb (mask_of limit count lanes) 0)))
    → AllByRecursion (λ lane. lane < limit) lanes
all-below limit count lanes long few h =
    none-above limit count lanes long few (eqb-true _ 0 (true-twice _ h))

-- sixteen entries, as they are loaded
pub row-loaded : (start : ℕ) (values : List ℕ)
    → IsRow values start (take 16 (take 16 (drop start values)))
row-loaded start values k h =
    get_or-take 16 (take 16 (drop start values)) k 0 h ∙ get_or-take 16 (drop start values) k 0 h
    ∙ get_or-drop start values k 0

-- the positions of bytes in a row of sixteen
abbrev pub places : ℕ → List ℕ → List ℕ
places count bytes = zip2 bit_and bytes (replicate count 15)

places-are : (count : ℕ) (bytes : List ℕ) → length bytes ≡ count
    → places count bytes ≡ map (λ byte. bit_and byte 15) bytes
places-are count bytes long = zip2_splat bit_and bytes count 15 long

length-places : (count : ℕ) (bytes : List ℕ) → length bytes ≡ count
    → length (places count bytes) ≡ count
length-places count bytes long =
    ap length (places-are count bytes long) ∙ length-map bytes (λ byte. bit_and byte 15) ∙ long

pub places-ok : (times : ℕ) (bytes : List ℕ) → length bytes ≡ times * 16
    → SwzOk w8 16 (times * 16) 0 (places (times * 16) bytes)
places-ok times bytes long =
    let count = times * 16 in
    let below = Each1-all (λ a. bit_and a 15 < 16) (λ a. omega (arith, and_le_r a 15)) bytes in
    SwzOk-from_below w8 16 times count 0 (places count bytes) refl
    (omega (arith, length-places count bytes long))
    (Each1-zip2 bit_and (λ j. j < 16) bytes (replicate count 15)
    (Each2-splat (λ a b. bit_and a b < 16) bytes count 15 below))

-- a row, repeated
pub repeated-row : (times : ℕ) (row : List ℕ) → length row ≡ 16
    → pick_l 0 (row ++ row) (repeats times (range_with_len 0 16)) ≡ repeats times row
repeated-row zero row long = refl
repeated-row (suc times) row long =
    map-append (λ k. get_or (row ++ row) k 0) (range_with_len 0 16)
    (repeats times (range_with_len 0 16))
    ∙ (λ i. (pick_l-range_with_len 0 (row ++ row) 0 16 (omega (arith, length-append row row, long))
    ∙ take_at row row 16 long) i ++ repeated-row times row long i)

-- the entries of bytes in a repeated table of sixteen entries
pub repeated-looked_up : (times : ℕ) (entry : ℕ → ℕ) (table bytes : List ℕ)
    → length bytes ≡ times * 16
    → ((place : ℕ) → place < times * 16 → get_or table place 0 ≡ entry (place % 16))
    → swz_l w8 16 table 0 (places (times * 16) bytes) ≡ map (λ byte. entry (byte % 16)) bytes
repeated-looked_up times entry table bytes long has =
    let count = times * 16 in
    let js = places count bytes in
    let shown = λ (byte : ℕ). entry (byte % 16) in
    let len : length (swz_l w8 16 table 0 js) ≡ count =
    length-swz_l w8 16 table 0 js ∙ length-places count bytes long in
    ext_get_or 0 (swz_l w8 16 table 0 js) (map shown bytes)
    (len ∙ sym (length-map bytes shown ∙ long))
    (λ i h.
    let within : i < length bytes = omega (arith, h, len, long) in
    let here : get_or js i 0 ≡ get_or bytes i 0 % 16 =
    ap (λ l. get_or l i 0) (places-are count bytes long)
    ∙ get_or-map (λ byte. bit_and byte 15) bytes i 0 0 within
    ∙ and_mask (get_or bytes i 0) 4 in
    let place = 16 * ((0 + i) / 16) + get_or js i 0 in
    get_or-swz_l_below w8 16 table 0 js i
    (omega (arith, within, long, length-places count bytes long)) (omega (arith, here))
    ∙ has place (omega (arith, here, within, long)) ∙ ap entry (omega (arith, here))
    ∙ sym (get_or-map shown bytes i 0 0 within))

-- the entry of a byte below 128
pub low-same : (values : List ℕ) (start byte : ℕ) → byte < 128
    → low_entry values start byte ≡ in_row values start byte
low-same values start byte h =
    λ i. cond (lt-leb 128 byte h i) 0 (in_row values start byte)

-- the lowest four bits and the highest one of a byte
low-place : (byte : ℕ) → bit_and byte 143 ≡ byte / 128 % 2 * 128 + byte % 16
low-place byte =
    let high = byte / 16 in
    ap (λ n. bit_and n 143) (omega arith)
    ∙ and_block 4 high 8 (byte % 16) 15 (omega arith) (omega arith)
    ∙ omega (arith, and_high high 1 3, and_mask (byte % 16) 4)

-- the positions of bytes in a row of sixteen. Those of bytes from 128 on give zeros
module _ (times : ℕ) (bytes : List ℕ) (long : length bytes ≡ times * 16)
    (fit : Each1 (Fits w8) bytes) where
  abbrev low_places : List ℕ
  low_places = zip2 bit_and bytes (replicate (times * 16) 143)

  low_places-are : low_places ≡ map (λ byte. bit_and byte 143) bytes
  low_places-are = zip2_splat bit_and bytes (times * 16) 143 long

  length-low_places : length low_places ≡ times * 16
  length-low_places =
      ap length low_places-are ∙ length-map bytes (λ byte. bit_and byte 143) ∙ long

  low_place-ok : (byte : ℕ) → T (leb 128 (bit_and byte 143) || ltb (bit_and byte 143) 16)
  low_place-ok byte =
      let j = bit_and byte 143 in
      ⊎_elim
      (λ (low : j < 128).
      subst (λ b. T (b || ltb j 16)) (sym (lt-leb 128 j low))
      (subst T (sym (lt-ltb j 16 (omega (arith, low, low-place byte)))) tt))
      (λ (high : 128 ≤ j). subst (λ b. T (b || ltb j 16)) (sym (le-leb 128 j high)) tt)
      (cases_lt j 128)

  pub low_places-ok : SwzOk w8 16 (times * 16) 0 low_places
  low_places-ok =
      SwzOk-from_Each1 w8 16 times (times * 16) 0 low_places refl
      (omega (arith, length-low_places))
      (Each1-zip2 bit_and (λ j. T (leb 128 j || ltb j 16)) bytes (replicate (times * 16) 143)
      (Each2-splat (λ a b. T (leb 128 (bit_and a b) || ltb (bit_and a b) 16)) bytes (times * 16)
      143 (Each1-all (λ byte. T (leb 128 (bit_and byte 143) || ltb (bit_and byte 143) 16))
      low_place-ok bytes)))

  -- the entries of bytes in a row
  pub row-looked_up : (values row : List ℕ) (start : ℕ) → length row ≡ 16 → IsRow values start row
      → swz_l w8 16 (repeats times row) 0 low_places ≡ map (low_entry values start) bytes
  row-looked_up values row start sixteen is_row =
      let table = repeats times row in
      let shown = low_entry values start in
      let len : length (swz_l w8 16 table 0 low_places) ≡ times * 16 =
      length-swz_l w8 16 table 0 low_places ∙ length-low_places in
      ext_get_or 0 (swz_l w8 16 table 0 low_places) (map shown bytes)
      (len ∙ sym (length-map bytes shown ∙ long))
      (λ i h.
      let within : i < length bytes = omega (arith, h, len, long) in
      let byte = get_or bytes i 0 in
      let j = get_or low_places i 0 in
      let place = 16 * ((0 + i) / 16) + j in
      let here : j ≡ byte / 128 % 2 * 128 + byte % 16 =
      ap (λ l. get_or l i 0) low_places-are
      ∙ get_or-map (λ b. bit_and b 143) bytes i 0 0 within ∙ low-place byte in
      let fits : byte < 256 = (Each1-get_or (Fits w8) bytes i 0 within fit).fits in
      get_or-swz_l w8 16 table 0 low_places i (omega (arith, within, long, length-low_places))
      ∙ ⊎_elim
      (λ (low : byte < 128).
      let inside : place < times * 16 = omega (arith, here, low, within, long) in
      (λ k. cond (lt-leb 128 j (omega (arith, here, low)) k) 0 (get_or table place 0))
      ∙ get_or-repeats times row place (subst (λ n. place < times * n) (sym sixteen) inside)
      ∙ ap (λ n. get_or row (place % n) 0) sixteen
      ∙ is_row (place % 16) (omega arith)
      ∙ ap (λ n. slice_index values (start + n)) (omega (arith, here, low))
      ∙ sym (low-same values start byte low))
      (λ (high : 128 ≤ byte).
      (λ k. cond (le-leb 128 j (omega (arith, here, high, fits)) k) 0 (get_or table place 0))
      ∙ sym (λ k. cond (le-leb 128 byte high k) 0 (in_row values start byte)))
      (cases_lt byte 128)
      ∙ sym (get_or-map shown bytes i 0 0 within))

-- the lanes with a bit that is set
abbrev pub up : ℕ → ℕ → ℕ
up a b = a * 2 ^ b % 2 ^ 8

-- lanes chosen by whether another is 128 or more
pub chosen-high : (count : ℕ) (shown f g : ℕ → ℕ) (bytes lanes : List ℕ) → length bytes ≡ count
    → lanes ≡ map shown bytes
    → sel_l (map (top 7) (zip2 at_most (replicate count 128) lanes)) (map f bytes) (map g bytes)
    ≡ map (λ byte. cond (leb 128 (shown byte)) (f byte) (g byte)) bytes
chosen-high count shown f g bytes lanes long lanes_are =
    let tests : map (top 7) (zip2 at_most (replicate count 128) lanes)
    ≡ map (λ byte. leb 128 (shown byte)) bytes =
    tops_compared w8 leb (replicate count 128) lanes
    ∙ zip2_splat_left leb 128 count lanes (ap length lanes_are ∙ length-map bytes shown ∙ long)
    ∙ ap (map (leb 128)) lanes_are
    ∙ map-map (leb 128) shown bytes in
    ap (λ l. sel_l l (map f bytes) (map g bytes)) tests
    ∙ select-mapped (λ byte. leb 128 (shown byte)) f g bytes

pub chosen-lanes : (shift count : ℕ) (f g : ℕ → ℕ) (bytes : List ℕ) → length bytes ≡ count
    → sel_l (map (top 7) (zip2 at_most (replicate count 128)
    (zip2 up bytes (replicate count shift)))) (map f bytes) (map g bytes)
    ≡ map (chosen_by shift f g) bytes
chosen-lanes shift count f g bytes long =
    chosen-high count (λ byte. up byte shift) f g bytes (zip2 up bytes (replicate count shift)) long
    (zip2_splat up bytes count shift long)

-- the choice from all rows
abbrev pub of_rows : List ℕ → ℕ → ℕ
of_rows values =
    chosen_by 1
    (chosen_by 2 (chosen_by 3 (low_entry values 112) (low_entry values 96))
    (chosen_by 3 (low_entry values 80) (low_entry values 64)))
    (chosen_by 2 (chosen_by 3 (low_entry values 48) (low_entry values 32))
    (chosen_by 3 (low_entry values 16) (low_entry values 0)))

-- a choice by a bit, if both sides are right where they are chosen
chosen-by_bit : (byte is shift x y : ℕ) → (128 ≤ up byte shift → x ≡ is)
    → (up byte shift < 128 → y ≡ is)
    → cond (leb 128 (up byte shift)) x y ≡ is
chosen-by_bit byte is shift x y set clear = go (leb 128 (up byte shift)) refl
  where
    go : (b : Bool) → leb 128 (up byte shift) ≡ b → cond b x y ≡ is
    go true e = set (leb-true 128 (up byte shift) e)
    go false e = clear (leb-false 128 (up byte shift) e)

of_rows-is : (values : List ℕ) (byte : ℕ) → byte < 128
    → of_rows values byte ≡ slice_index values byte
of_rows-is values byte h =
    let by = chosen-by_bit byte (slice_index values byte) in
    by 1 _ _
    (λ a. by 2 _ _ (λ b. by 3 _ _ (λ c. at 112 (omega arith)) (λ c. at 96 (omega arith)))
    (λ b. by 3 _ _ (λ c. at 80 (omega arith)) (λ c. at 64 (omega arith))))
    (λ a. by 2 _ _ (λ b. by 3 _ _ (λ c. at 48 (omega arith)) (λ c. at 32 (omega arith)))
    (λ b. by 3 _ _ (λ c. at 16 (omega arith)) (λ c. at 0 (omega arith))))
  where
    at : (start : ℕ) → start + byte % 16 ≡ byte
        → low_entry values start byte ≡ slice_index values byte
    at start e = low-same values start byte h ∙ ap (slice_index values) e

-- a byte from 128 on keeps its highest bit
abbrev pub of_byte : List ℕ → ℕ → ℕ
of_byte values byte = bit_or (of_rows values byte) (bit_and byte 128)

-- entries that are exact
pub exact-same : {found entry : ℕ} → found ≡ entry → IsExact found entry
exact-same same = record { found_is = λ _. same; entry_is = λ _. same }

pub exact-none : {found entry : ℕ} → 128 ≤ found → 128 ≤ entry → IsExact found entry
exact-none high none = record {
  found_is = λ low. absurd (omega (arith, high, low));
  entry_is = λ low. absurd (omega (arith, none, low));
}

-- no entry was found, so there is none
pub none-exact : {found entry : ℕ} → IsExact found entry → 128 ≤ found → 128 ≤ entry
none-exact {found} {entry} exact high =
    ⊎_elim (λ (low : entry < 128). absurd (omega (arith, high, exact.entry_is low, low)))
    (λ (none : 128 ≤ entry). none) (cases_lt entry 128)

-- a byte from 128 on has no entry
pub upper-entry : (values : List ℕ) (byte : ℕ) → IsAsciiTable values → 128 ≤ byte → byte < 256
    → slice_index values byte ≡ 128
upper-entry values byte ascii high fits =
    let at : byte ≡ 128 + (byte - 128) = omega (arith, high) in
    ap (slice_index values) at ∙ sym (get_or-drop 128 values (byte - 128) 0)
    ∙ ap (λ l. get_or l (byte - 128) 0) ascii
    ∙ get_or-replicate 128 (byte - 128) 128 0 (omega (arith, high, fits))

pub of_byte-is : (values : List ℕ) → IsAsciiTable values → (byte : ℕ) → byte < 256
    → IsExact (of_byte values byte) (slice_index values byte)
of_byte-is values ascii byte fits =
    let bit : bit_and byte 128 ≡ byte / 128 % 2 * 128 = and_high byte 1 7 in
    ⊎_elim (λ (low : byte < 128).
    exact-same
    (ap (bit_or (of_rows values byte)) (omega (arith, bit, low)) ∙ or_zero_r (of_rows values byte)
    ∙ of_rows-is values byte low))
    (λ (high : 128 ≤ byte).
    exact-none
    (omega (arith, fits, high, bit, le_or_r (of_rows values byte) (bit_and byte 128)))
    (omega (arith, upper-entry values byte ascii high fits)))
    (cases_lt byte 128)

-- the entries that a function finds for bytes
pub entries-are : (find : ℕ → ℕ) (values bytes found : List ℕ) → found ≡ map find bytes
    → Each1 (λ byte. byte < 256) bytes
    → ((byte : ℕ) → byte < 256 → IsExact (find byte) (slice_index values byte))
    → AreExact values bytes found
entries-are find values bytes found is fits each k h =
    rw (is, get_or-map find bytes k 0 0 h)
    (each (get_or bytes k 0) (Each1-get_or (λ byte. byte < 256) bytes k 0 h fits))
