-- The bits of ignored bytes, by the rows of their table.
use Rattle.std.proofs.Common.{◌≡◌, ℕ, ◌+◌, ◌*◌, ◌/◌, ◌%◌, ◌^◌, ◌<◌, ◌≤◌, Bool, true, false, cond, eqb, List, ◌∷◌, length, map, get_or, slice_index, replicate, bit_and, w8, refl, sym, ap, ◌∙◌, subst, arith, ⊎_elim}
use Rattle.std.proofs.lemmas.List.{get_or_past, length-map}
use Rattle.std.proofs.lemmas.Simd.{bitmask_splat, splat_is_map, zip2_of_maps, map-map, mask_l-lt, bit_mask_l}
use Rattle.std.specs.List.{AllByRecursion, range_with_len}
use Rattle.std.specs.Prelude.{◌==◌, ◌-◌, suc, not}
use Rattle.std.specs.Simd.Lanes.{mask_l, sel_l, top, zip2}
use Rattle.data_encoding_kernel.specs.declared.ignore.IgnoredBytes.{IgnoredBytes}
use Rattle.data_encoding_kernel.specs.Affine.{bits_of_rows}
use Rattle.data_encoding_kernel.specs.Ignore.{HoldsIgnored, ignored_bit}
use Rattle.data_encoding_kernel.specs.Tables.{HoldsValues}
use Rattle.data_encoding_meaning.specs.text.Base.{Base, is_ignored, meaning}
use Rattle.std.proofs.lemmas.List.FromFn.{get_or-map-range_with_len, length-map-range_with_len}
use Rattle.std.proofs.Math.Pow.{pow_mono}
use Rattle.std.proofs.lemmas.Bool.{cases_lt}
use Rattle.std.proofs.lemmas.Bool.Decides.{nat_tests}
use Rattle.std.proofs.lemmas.Nat.{and_le_r, pow_pos}
use Rattle.std.proofs.lemmas.Nat.Bits.{and_pow}
use Rattle.data_encoding_meaning.specs.declared.encoding.Character.TheVariants.{Invalid}
use Rattle.data_encoding_kernel.specs.Values.{IsRow, in_row, low_entry}
use Rattle.data_encoding_kernel.proofs.digits.AffineLemmas.{bit-computed, entries-at_rows, at_row, chosen-equal, function-at, down, equal, no-bit, own-row, plus}
use Rattle.data_encoding_kernel.proofs.digits.LaneLemmas.{map-same}
use Rattle.data_encoding_kernel.proofs.digits.WordLemmas.{map-range-same}

pub mask-kept : (ignored : IgnoredBytes) (bytes bits : List ℕ) {found row_bits : List ℕ}
    → bits ≡ bits_of_rows → length bytes ≡ 16 → AllByRecursion (λ byte. byte < 256) bytes
    → ((values : List ℕ) (start : ℕ) → IsRow values start ignored.rows
    → found ≡ map (low_entry values start) bytes)
    → ((values : List ℕ) (start : ℕ) → IsRow values start bits
    → row_bits ≡ map (low_entry values start) (zip2 down bytes (replicate 16 4)))
    → mask_l (map (top 7) (zip2 equal (zip2 bit_and found row_bits) (replicate 16 0)))
    % 18446744073709551616
    ≡ mask_l (map (λ byte. ignored_bit ignored byte == 0) bytes)
mask-kept ignored bytes bits {found} {row_bits} is long below first second =
    let found_are : found ≡ map (low_entry ignored.rows 0) bytes =
    first ignored.rows 0 (own-row ignored.rows) in
    let bits_are : row_bits ≡ map (at_row bits_of_rows) bytes =
    entries-at_rows bits_of_rows 16 bytes row_bits long below
    (second bits_of_rows 0 (subst (IsRow bits_of_rows 0) (sym is) (own-row bits_of_rows))) in
    let hits : zip2 bit_and found row_bits ≡ map (ignored_bit ignored) bytes =
    zip2_of_maps bit_and (low_entry ignored.rows 0) (at_row bits_of_rows) bytes found_are bits_are
    ∙ map-same (λ byte. byte < 256)
    (λ byte. bit_and (low_entry ignored.rows 0 byte) (at_row bits_of_rows byte))
    (ignored_bit ignored) (bit-computed ignored.rows) bytes below in
    bitmask_splat w8 eqb (zip2 bit_and found row_bits) 16 0
    (ap length hits ∙ length-map bytes (ignored_bit ignored) ∙ long) (omega arith)
    ∙ ap (λ l. mask_l (map (λ bit. eqb bit 0) l)) hits
    ∙ ap mask_l (map-map (λ bit. eqb bit 0) (ignored_bit ignored) bytes)

added-bit : (flag : Bool) (mask : ℕ) → mask < 128
    → plus (plus mask mask) (cond flag 1 0) ≡ cond flag 1 0 + 2 * mask
added-bit true mask h = omega (arith, h)
added-bit false mask h = omega (arith, h)

pub row-added : (entry : ℕ → ℕ) (flags : ℕ → List Bool) → ((k : ℕ) → mask_l (flags k) < 128)
    → (entries rows : List ℕ) → entries ≡ map entry (range_with_len 0 16)
    → rows ≡ map (λ k. mask_l (flags k)) (range_with_len 0 16)
    → zip2 plus (zip2 plus rows rows)
    (sel_l (map (top 7) (zip2 equal entries (replicate 16 129))) (replicate 16 1) (replicate 16 0))
    ≡ map (λ k. mask_l ((entry k == 129) ∷ flags k)) (range_with_len 0 16)
row-added entry flags few entries rows entries_are rows_are =
    let range = range_with_len 0 16 in
    let mask = λ (k : ℕ). mask_l (flags k) in
    let chosen = chosen-equal entry (λ _. 129) (λ _. 1) (λ _. 0) range (replicate 16 1)
    (replicate 16 0) entries_are (splat_is_map range 16 129 refl) (splat_is_map range 16 1 refl)
    (splat_is_map range 16 0 refl) in
    zip2_of_maps plus (λ k. plus (mask k) (mask k)) (λ k. cond (eqb (entry k) 129) 1 0) range
    (zip2_of_maps plus mask mask range rows_are rows_are) chosen
    ∙ map-range-same (λ k. plus (plus (mask k) (mask k)) (cond (eqb (entry k) 129) 1 0))
    (λ k. mask_l ((entry k == 129) ∷ flags k)) 16
    (λ k h. added-bit (eqb (entry k) 129) (mask k) (few k))

-- whether the bytes at one place of these rows are ignored
abbrev pub row_flags : List ℕ → ℕ → ℕ → ℕ → List Bool
row_flags values start count k =
    map (λ row. eqb (slice_index values (16 * row + k)) 129) (range_with_len start count)

pub flags-below : (values : List ℕ) (start count k : ℕ) → count < 8
    → mask_l (row_flags values start count k) < 128
flags-below values start count k few =
    let flag = λ (row : ℕ). eqb (slice_index values (16 * row + k)) 129 in
    omega (
      arith,
      mask_l-lt (row_flags values start count k),
      ap (λ n. 2 ^ n) (length-map-range_with_len flag start count),
      pow_mono {i = count} {j = 7} (omega (arith, few)),
    )

-- one row more before them
pub row-before : (values rows : List ℕ) (count : ℕ) → count < 8
    → rows ≡ map (λ k. mask_l ((slice_index values (16 * (7 - count) + k) == 129)
    ∷ row_flags values (8 - count) count k)) (range_with_len 0 16)
    → rows ≡ map (λ k. mask_l (row_flags values (8 - (count + 1)) (count + 1) k))
    (range_with_len 0 16)
row-before values rows count few is =
    let next : 8 - count ≡ 7 - count + 1 = omega (arith, few) in
    let first : 7 - count ≡ 8 - (count + 1) = omega (arith, few) in
    let more : suc count ≡ count + 1 = omega arith in
    is
    ∙ (λ i. map (λ k. mask_l ((slice_index values (16 * (7 - count) + k) == 129)
    ∷ row_flags values (next i) count k)) (range_with_len 0 16))
    ∙ (λ i. map (λ k. mask_l (row_flags values (first i) (more i) k)) (range_with_len 0 16))

row-bit : (row : ℕ) → row < 8 → get_or bits_of_rows row 0 ≡ 2 ^ row
row-bit row few =
    sym (function-at (λ r. get_or bits_of_rows r 0) 8 row few) ∙ function-at (λ r. 2 ^ r) 8 row few

bit-set : (flag : Bool) (row : ℕ) → not (cond flag 1 0 * 2 ^ row == 0) ≡ flag
bit-set true row = grind (arith, nat_tests, pow_pos row)
bit-set false row =
    let none : 0 * 2 ^ row ≡ 0 = omega arith in ap (λ n. not (n == 0)) none

-- each byte below 128 has its bit exactly if its entry is 129
bit-is : (values : List ℕ) (ignored : IgnoredBytes)
    → ignored.rows ≡ map (λ k. mask_l (row_flags values 0 8 k)) (range_with_len 0 16)
    → (byte : ℕ) → byte < 128
    → not (ignored_bit ignored byte == 0) ≡ (slice_index values byte == 129)
bit-is values ignored is byte few =
    let row = byte / 16 in
    let k = byte % 16 in
    let flags = row_flags values 0 8 k in
    let low : in_row ignored.rows 0 byte ≡ mask_l flags =
    ap (λ n. get_or ignored.rows n 0) (omega arith) ∙ ap (λ l. get_or l k 0) is
    ∙ function-at (λ j. mask_l (row_flags values 0 8 j)) 16 k (omega arith) in
    let bit : in_row bits_of_rows 0 row ≡ 2 ^ row =
    ap (λ n. get_or bits_of_rows n 0) (omega (arith, few)) ∙ row-bit row (omega (arith, few)) in
    let flag : get_or flags row false ≡ eqb (slice_index values byte) 129 =
    get_or-map-range_with_len (λ r. eqb (slice_index values (16 * r + k)) 129) 0 8 row row false
    (omega (arith, few)) (omega arith)
    ∙ ap (λ n. eqb (slice_index values n) 129) (omega arith) in
    let here : ignored_bit ignored byte ≡ cond (eqb (slice_index values byte) 129) 1 0 * 2 ^ row =
    (λ i. bit_and (low i) (bit i)) ∙ and_pow (mask_l flags) row
    ∙ ap (λ n. n * 2 ^ row) (bit_mask_l flags row ∙ ap (λ b. cond b 1 0) flag) in
    ap (λ n. not (n == 0)) here ∙ bit-set (eqb (slice_index values byte) 129) row

-- no byte of 128 or more is ignored
high-not_ignored : (base : Base) (ignored : IgnoredBytes) → length base.meanings ≤ 128 → (byte : ℕ)
    → 128 ≤ byte → byte < 256
    → is_ignored (meaning base byte) ≡ not (ignored_bit ignored byte == 0)
high-not_ignored base ignored few byte high fits =
    let bit : in_row bits_of_rows 0 (byte / 16) ≡ 0 =
    ap (λ k. get_or bits_of_rows k 0) (omega arith)
    ∙ no-bit (byte / 16 % 16) (omega (arith, high, fits)) (omega arith) in
    let none : ignored_bit ignored byte ≡ 0 =
    ap (bit_and (in_row ignored.rows 0 byte)) bit
    ∙ omega (arith, and_le_r (in_row ignored.rows 0 byte) 0) in
    let invalid : meaning base byte ≡ Invalid =
    get_or_past base.meanings byte Invalid (omega (arith, few, high)) in
    ap is_ignored invalid ∙ sym (ap (λ n. not (n == 0)) none)

pub holds-ignored : (base : Base) (values : List ℕ) (ignored : IgnoredBytes)
    → HoldsValues base values
    → length base.meanings ≤ 128
    → ignored.rows ≡ map (λ k. mask_l (row_flags values 0 8 k)) (range_with_len 0 16)
    → HoldsIgnored base ignored
holds-ignored base values ignored holds few is = record {
  at_byte = λ byte fits. ⊎_elim
      (λ low. holds.ignoreds byte fits ∙ sym (bit-is values ignored is byte low))
      (λ high. high-not_ignored base ignored few byte high fits)
      (cases_lt byte 128);
}
