-- Entries of a table that is affine by rows of sixteen, at bytes in lanes.
use Rattle.std.proofs.Common.{◌≡◌, ℕ, ◌+◌, ◌-◌, ◌*◌, ◌/◌, ◌%◌, ◌^◌, ◌<◌, ◌≤◌, Bool, true, false, cond, eqb, leb, eqb-true, List, length, map, take, drop, get_or, slice_index, replicate, bit_and, w8, refl, sym, ap, ◌∙◌, subst, arith, ⊎_elim}
use Rattle.std.proofs.lemmas.Bool.{cases_lt}
use Rattle.std.proofs.lemmas.Nat.{and_le_l, and_le_r}
use Rattle.std.proofs.lemmas.List.{get_or-drop, get_or-replicate, map-id, ext_get_or}
use Rattle.std.proofs.lemmas.List.FromFn.{get_or-map-range_with_len, length-map-range_with_len}
use Rattle.std.proofs.lemmas.Simd.{length-chunk, zip2_of_maps, zip2_splat, splat_is_map, tops_compared, map-map}
use Rattle.std.specs.List.{AllByRecursion, range_with_len}
use Rattle.std.specs.Simd.Lanes.{chunk, zip2, sel_l, top}
use Rattle.data_encoding_kernel.specs.declared.simd.decode.affine.Affine.{Affine}
use Rattle.data_encoding_kernel.specs.Affine.{HoldsAffine, affine_entry, affine_value, bits_of_rows, moved_byte}
use Rattle.data_encoding_kernel.specs.Values.{IsExact, IsRow, in_row, low_entry}
use Rattle.data_encoding_kernel.proofs.digits.GatherRowLemmas.{at_most, chosen-high, exact-none, exact-same, low-same, row-loaded, upper-entry}
use Rattle.data_encoding_kernel.proofs.digits.LaneLemmas.{map-same, select-mapped}
use Rattle.data_encoding_kernel.proofs.digits.WordLemmas.{map-range-same}
use Rattle.data_encoding_meaning.proofs.lists.EachLemmas.{all-at}

abbrev pub equal : ℕ → ℕ → ℕ
equal a b = cond (eqb a b) 255 0

abbrev pub plus : ℕ → ℕ → ℕ
plus a b = (a + b) % 2 ^ 8

-- lanes chosen by whether two others are equal
pub chosen-equal : (f g h k : ℕ → ℕ) (bytes us vs : List ℕ) {xs ys : List ℕ} → xs ≡ map f bytes
    → ys ≡ map g bytes → us ≡ map h bytes → vs ≡ map k bytes
    → sel_l (map (top 7) (zip2 equal xs ys)) us vs
    ≡ map (λ byte. cond (eqb (f byte) (g byte)) (h byte) (k byte)) bytes
chosen-equal f g h k bytes us vs {xs} {ys} at_f at_g at_h at_k =
    let tests : map (top 7) (zip2 equal xs ys) ≡ map (λ byte. eqb (f byte) (g byte)) bytes =
    tops_compared w8 eqb xs ys ∙ zip2_of_maps eqb f g bytes at_f at_g in
    (λ i. sel_l (tests i) (at_h i) (at_k i))
    ∙ select-mapped (λ byte. eqb (f byte) (g byte)) h k bytes

abbrev pub at_row : List ℕ → ℕ → ℕ
at_row row byte = in_row row 0 (byte / 16)

-- a row, as the entries from its own start on
pub own-row : (row : List ℕ) → IsRow row 0 row
own-row row k h = ap (λ j. get_or row j 0) (omega arith)

abbrev pub down : ℕ → ℕ → ℕ
down a b = a / 2 ^ b

pub entries-at_rows : (row : List ℕ) (count : ℕ) (bytes entries : List ℕ) → length bytes ≡ count
    → AllByRecursion (λ byte. byte < 256) bytes
    → entries ≡ map (low_entry row 0) (zip2 down bytes (replicate count 4))
    → entries ≡ map (at_row row) bytes
entries-at_rows row count bytes entries long below e =
    e ∙ ap (map (low_entry row 0)) (zip2_splat down bytes count 4 long)
    ∙ map-map (low_entry row 0) (λ byte. down byte 4) bytes
    ∙ map-same (λ byte. byte < 256) (λ byte. low_entry row 0 (down byte 4)) (at_row row)
    (λ byte h. low-same row 0 (down byte 4) (omega (arith, h))) bytes below

-- the entries of a row, by positions
abbrev LooksUp : List ℕ → List ℕ → List ℕ → Type 0
LooksUp row places found =
    (values : List ℕ) (start : ℕ) → IsRow values start row
    → found ≡ map (low_entry values start) places

-- the four look-ups for the entries of bytes
pub rows-found : (affine : Affine) (count : ℕ) (bytes bits : List ℕ)
    {symbols found deltas shared : List ℕ}
    → bits ≡ bits_of_rows → length bytes ≡ count → AllByRecursion (λ byte. byte < 256) bytes
    → LooksUp affine.symbols bytes symbols
    → LooksUp bits (zip2 down bytes (replicate count 4)) found
    → LooksUp affine.deltas (zip2 down bytes (replicate count 4)) deltas
    → LooksUp affine.shared bytes shared
    → (symbols ≡ map (low_entry affine.symbols 0) bytes) × (found ≡ map (at_row bits_of_rows) bytes)
    × (deltas ≡ map (at_row affine.deltas) bytes) × (shared ≡ map (low_entry affine.shared 0) bytes)
rows-found affine count bytes bits {symbols} {found} {deltas} {shared} is long below first second
    third fourth = (
      first affine.symbols 0 (own-row affine.symbols),
      entries-at_rows bits_of_rows count bytes found long below
          (second bits_of_rows 0 (subst (IsRow bits_of_rows 0) (sym is) (own-row bits_of_rows))),
      entries-at_rows affine.deltas count bytes deltas long below
          (third affine.deltas 0 (own-row affine.deltas)),
      fourth affine.shared 0 (own-row affine.shared),
    )

-- no row from 128 on has a bit
pub no-bit : (row : ℕ) → 8 ≤ row → row < 16 → get_or bits_of_rows row 0 ≡ 0
no-bit row high low =
    ap (λ k. get_or bits_of_rows k 0) (omega (arith, high))
    ∙ sym (get_or-drop 8 bits_of_rows (row - 8) 0)
    ∙ get_or-replicate 8 (row - 8) 0 0 (omega (arith, high, low))

-- and a byte there is not a symbol
no-symbol : (symbols byte : ℕ) → 128 ≤ byte → byte < 256
    → bit_and symbols (at_row bits_of_rows byte) ≡ 0
no-symbol symbols byte high fits =
    ap (bit_and symbols)
    (ap (λ k. get_or bits_of_rows k 0) (omega arith)
    ∙ no-bit (byte / 16 % 16) (omega (arith, high, fits)) (omega arith))
    ∙ omega (arith, and_le_r symbols 0)

high-entry : (affine : Affine) (byte : ℕ) → 128 ≤ byte → byte < 256
    → affine_entry affine byte ≡ 255
high-entry affine byte high fits =
    ap (λ n. cond (eqb n 0) 255 (affine_value affine byte))
    (no-symbol (in_row affine.symbols 0 byte) byte high fits)

-- a bit of its row, as it is computed
pub bit-computed : (row : List ℕ) (byte : ℕ) → byte < 256
    → bit_and (low_entry row 0 byte) (at_row bits_of_rows byte)
    ≡ bit_and (in_row row 0 byte) (at_row bits_of_rows byte)
bit-computed row byte fits =
    ⊎_elim
    (λ (low : byte < 128). ap (λ n. bit_and n (at_row bits_of_rows byte)) (low-same row 0 byte low))
    (λ (high : 128 ≤ byte).
    no-symbol (low_entry row 0 byte) byte high fits
    ∙ sym (no-symbol (in_row row 0 byte) byte high fits))
    (cases_lt byte 128)

-- the entry of a byte, as it is computed
abbrev low_bit : Affine → ℕ → ℕ
low_bit affine byte = bit_and (low_entry affine.symbols 0 byte) (at_row bits_of_rows byte)

abbrev low_value : Affine → ℕ → ℕ
low_value affine byte =
    cond (leb 128 (moved_byte affine byte)) (low_entry affine.shared 0 byte)
    (moved_byte affine byte)

computed-entry : (affine : Affine) (byte : ℕ) → byte < 256
    → cond (eqb (low_bit affine byte) 0) 255 (low_value affine byte) ≡ affine_entry affine byte
computed-entry affine byte fits =
    let moved = moved_byte affine byte in
    ⊎_elim
    (λ (low : byte < 128).
    λ i. cond
    (eqb (bit_and (low-same affine.symbols 0 byte low i) (at_row bits_of_rows byte)) 0) 255
    (cond (leb 128 moved) (low-same affine.shared 0 byte low i) moved))
    (λ (high : 128 ≤ byte).
    ap (λ n. cond (eqb n 0) 255 (low_value affine byte))
    (no-symbol (low_entry affine.symbols 0 byte) byte high fits)
    ∙ sym (high-entry affine byte high fits))
    (cases_lt byte 128)

pub found-are : (affine : Affine) (count : ℕ) (bytes symbols bits deltas shared : List ℕ)
    → length bytes ≡ count → AllByRecursion (λ byte. byte < 256) bytes
    → symbols ≡ map (low_entry affine.symbols 0) bytes
    → bits ≡ map (at_row bits_of_rows) bytes → deltas ≡ map (at_row affine.deltas) bytes
    → shared ≡ map (low_entry affine.shared 0) bytes
    → sel_l (map (top 7) (zip2 equal (zip2 bit_and symbols bits) (replicate count 0)))
    (replicate count 255)
    (sel_l (map (top 7) (zip2 at_most (replicate count 128) (zip2 plus bytes deltas))) shared
    (zip2 plus bytes deltas))
    ≡ map (affine_entry affine) bytes
found-are affine count bytes symbols bits deltas shared long below at_symbols at_bits at_deltas
    at_shared =
    let own : bytes ≡ map (λ (byte : ℕ). byte) bytes = sym (map-id bytes) in
    let moved : zip2 plus bytes deltas ≡ map (moved_byte affine) bytes =
    zip2_of_maps plus (λ byte. byte) (at_row affine.deltas) bytes own at_deltas in
    chosen-equal (low_bit affine) (λ _. 0) (λ _. 255) (low_value affine) bytes _ _
    (zip2_of_maps bit_and (low_entry affine.symbols 0) (at_row bits_of_rows) bytes at_symbols
    at_bits)
    (splat_is_map bytes count 0 long) (splat_is_map bytes count 255 long)
    ((λ i. sel_l (map (top 7) (zip2 at_most (replicate count 128) (zip2 plus bytes deltas)))
    (at_shared i) (moved i))
    ∙ chosen-high count (moved_byte affine) (low_entry affine.shared 0) (moved_byte affine) bytes
    (zip2 plus bytes deltas) long moved)
    ∙ map-same (λ byte. byte < 256)
    (λ byte. cond (eqb (low_bit affine byte) 0) 255 (low_value affine byte)) (affine_entry affine)
    (computed-entry affine) bytes below

pub entry-exact : (values : List ℕ) (affine : Affine) → HoldsAffine values affine → (byte : ℕ)
    → byte < 256 → IsExact (affine_entry affine byte) (slice_index values byte)
entry-exact values affine held byte fits =
    ⊎_elim (held.agrees byte)
    (λ (high : 128 ≤ byte).
    exact-none (omega (arith, high-entry affine byte high fits))
    (omega (arith, upper-entry values byte held.ascii high fits)))
    (cases_lt byte 128)

-- the bytes of a row, as they are computed
pub row-bytes : (row : ℕ) → row < 8
    → map (λ k. (k + 16 * row) % 256) (range_with_len 0 16)
    ≡ map (λ k. 16 * row + k) (range_with_len 0 16)
row-bytes row few =
    map-range-same (λ k. (k + 16 * row) % 256) (λ k. 16 * row + k) 16 (λ k h. omega (arith, few, h))

pub function-at : (f : ℕ → ℕ) (count k : ℕ) → k < count
    → get_or (map f (range_with_len 0 count)) k 0 ≡ f k
function-at f count k h = get_or-map-range_with_len f 0 count k k 0 h (omega arith)

-- lanes that are counted from 0
pub lanes-from_function : (f : ℕ → ℕ) (count : ℕ) (lanes : List ℕ) → length lanes ≡ count
    → ((k : ℕ) → k < count → get_or lanes k 0 ≡ f k) → lanes ≡ map f (range_with_len 0 count)
lanes-from_function f count lanes long each =
    ext_get_or 0 lanes (map f (range_with_len 0 count))
    (long ∙ sym (length-map-range_with_len f 0 count))
    (λ k h.
    let inside : k < count = omega (arith, h, long) in
    each k inside ∙ sym (function-at f count k inside))

-- a lane that passes
exact-lane : (entry own : ℕ) → cond (eqb entry own) 0 (plus (bit_and entry own) 128) < 128
    → IsExact entry own
exact-lane entry own = go (eqb entry own) refl
  where
    go : (b : Bool) → eqb entry own ≡ b → cond b 0 (plus (bit_and entry own) 128) < 128
        → IsExact entry own
    go true same passes = exact-same (eqb-true entry own same)
    go false other passes =
        let both : 128 ≤ bit_and entry own = omega (arith, passes) in
        exact-none (omega (arith, both, and_le_l entry own))
        (omega (arith, both, and_le_r entry own))

-- the entries of a row, as they are loaded
abbrev entries_of : ℕ → List ℕ → List ℕ
entries_of row values = take 16 (take (16 * row + 16 - 16 * row) (drop (16 * row) values))

pub row-entries : (row : ℕ) (values : List ℕ) → length values ≡ 256 → row < 8
    → entries_of row values ≡ map (λ k. slice_index values (16 * row + k)) (range_with_len 0 16)
row-entries row values long few =
    let size : 16 * row + 16 - 16 * row ≡ 16 = omega arith in
    ap (λ n. take 16 (take n (drop (16 * row) values))) size
    ∙ lanes-from_function (λ k. slice_index values (16 * row + k)) 16
    (chunk 0 16 (chunk (16 * row) 16 values))
    (length-chunk 0 16 (chunk (16 * row) 16 values)
    (omega (arith, length-chunk (16 * row) 16 values (omega (arith, long, few)))))
    (row-loaded (16 * row) values)

-- a row of exact entries
pub row-agrees : (affine : Affine) (values bytes found : List ℕ) (row : ℕ) → length values ≡ 256
    → row < 8 → bytes ≡ map (λ k. 16 * row + k) (range_with_len 0 16)
    → found ≡ map (affine_entry affine) bytes
    → AllByRecursion (λ lane. lane < 128)
    (sel_l (map (top 7) (zip2 equal found (entries_of row values))) (replicate 16 0)
    (zip2 plus (zip2 bit_and found (entries_of row values)) (replicate 16 128)))
    → (k : ℕ) → k < 16
    → IsExact (affine_entry affine (16 * row + k)) (slice_index values (16 * row + k))
row-agrees affine values bytes found row long few are_bytes are_found passes k h =
    let places = range_with_len 0 16 in
    let entry = λ (j : ℕ). affine_entry affine (16 * row + j) in
    let own = λ (j : ℕ). slice_index values (16 * row + j) in
    let both = λ (j : ℕ). bit_and (entry j) (own j) in
    let lane = λ (j : ℕ). cond (eqb (entry j) (own j)) 0 (plus (both j) 128) in
    let found_are : found ≡ map entry places =
    are_found ∙ ap (map (affine_entry affine)) are_bytes
    ∙ map-map (affine_entry affine) (λ j. 16 * row + j) places in
    let own_are : entries_of row values ≡ map own places = row-entries row values long few in
    let lanes_are =
    chosen-equal entry own (λ _. 0) (λ j. plus (both j) 128) places (replicate 16 0)
    (zip2 plus (zip2 bit_and found (entries_of row values)) (replicate 16 128)) found_are own_are
    (splat_is_map places 16 0 refl)
    (zip2_of_maps plus both (λ _. 128) places
    (zip2_of_maps bit_and entry own places found_are own_are)
    (splat_is_map places 16 128 refl)) in
    let inside : k < length (map lane places) =
    omega (arith, h, length-map-range_with_len lane 0 16) in
    exact-lane (entry k) (own k)
    (subst (λ n. n < 128) (function-at lane 16 k h)
    (all-at (λ n. n < 128) (map lane places)
    (subst (AllByRecursion (λ n. n < 128)) lanes_are passes) k inside))

-- and one row more
pub rows-extended : (affine : Affine) (values : List ℕ) (row : ℕ)
    → ((byte : ℕ) → byte < 16 * row
    → IsExact (affine_entry affine byte) (slice_index values byte))
    → ((k : ℕ) → k < 16
    → IsExact (affine_entry affine (16 * row + k)) (slice_index values (16 * row + k)))
    → (byte : ℕ) → byte < 16 * (row + 1)
    → IsExact (affine_entry affine byte) (slice_index values byte)
rows-extended affine values row below here byte h =
    ⊎_elim (λ (low : byte < 16 * row). below byte low)
    (λ (from : 16 * row ≤ byte).
    let same : 16 * row + (byte - 16 * row) ≡ byte = omega arith in
    rw same at (here (byte - 16 * row) (omega arith)))
    (cases_lt byte (16 * row))
