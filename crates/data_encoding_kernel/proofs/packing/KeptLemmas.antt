-- The bytes of a part that are not ignored, packed sixteen after sixteen.
use Rattle.std.proofs.Common.{◌≡◌, ℕ, zero, suc, ◌+◌, ◌-◌, ◌*◌, ◌/◌, ◌%◌, ◌^◌, ◌<◌, ◌≤◌, Bool, true, false, not, cond, List, [], ◌∷◌, ◌++◌, length, map, take, drop, replicate, refl, sym, ap, ◌∙◌, subst, arith, length-append, length-take-le}
use Rattle.std.proofs.Math.Nat.{div-one, div-div-eq-div-mul, div-mul-le_self, mod-eq_of_lt, pow-succ'}
use Rattle.std.proofs.Math.Seq.{take-add, take-append-add}
use Rattle.std.proofs.lemmas.List.{drop-map, length-drop, length-map, length-replicate, take-append-drop, take-append-le, take-take}
use Rattle.std.proofs.lemmas.List.Elements.{filter-append}
use Rattle.std.proofs.lemmas.List.Filters.{length-filter_both}
use Rattle.std.proofs.lemmas.Simd.{mask_l-lt}
use borrow.Rule.Slice.PartMut.{put_mid}
use Rattle.std.specs.Int.RustNames.{count_ones}
use Rattle.std.specs.List.{filter}
use Rattle.std.specs.Prelude.{◌==◌}
use Rattle.std.specs.Simd.Lanes.{Each1, mask_l}
use Rattle.data_encoding_meaning.specs.text.Base.{Base, is_ignored, meaning}
use Rattle.data_encoding_meaning.specs.text.Grammar.{bytes_in, kept}
use Rattle.data_encoding_meaning.proofs.grammar.SameBytesLemmas.{bytes-kept_in}
use Rattle.data_encoding_meaning.proofs.lists.PartLemmas.{part-is}
use Rattle.data_encoding_kernel.specs.declared.ignore.IgnoredBytes.{IgnoredBytes}
use Rattle.data_encoding_kernel.specs.Ignore.{HoldsIgnored, IsPacked, ignored_bit, picked}
use Rattle.data_encoding_kernel.proofs.packing.PickedLemmas.{picked-count, picked-later, picked-passes}

-- the flags from one on
abbrev from_flag : ℕ → List Bool → List Bool
from_flag first flags = replicate first false ++ drop first flags

halved : (flag : Bool) (mask : ℕ) → (cond flag 1 0 + 2 * mask) / 2 ≡ mask
halved true mask = omega arith
halved false mask = omega arith

mask-from : (first : ℕ) (flags : List Bool) → first ≤ length flags
    → mask_l flags / 2 ^ first * 2 ^ first ≡ mask_l (from_flag first flags)
mask-from zero flags h = omega (arith, div-one (mask_l flags))
mask-from (suc first) [] h = absurd (omega (arith, h))
mask-from (suc first) (flag ∷ flags) h =
    let mask = mask_l (flag ∷ flags) in
    let power : 2 ^ suc first ≡ 2 * 2 ^ first = pow-succ' 2 first in
    let down : mask / 2 ^ suc first ≡ mask_l flags / 2 ^ first =
    ap (λ n. mask / n) power ∙ sym (div-div-eq-div-mul mask 2 (2 ^ first))
    ∙ ap (λ n. n / 2 ^ first) (halved flag (mask_l flags)) in
    (λ i. down i * power i)
    ∙ omega (arith, mask-from first flags (omega (arith, h)))

length-from : (first : ℕ) (flags : List Bool) → first ≤ length flags
    → length (from_flag first flags) ≡ length flags
length-from first flags h =
    omega (
      arith,
      length-append (replicate first false) (drop first flags),
      length-replicate first false,
      length-drop first flags,
      h,
    )

-- a mask without its first bits, as it is shifted
module _ (flags : List Bool) (first : ℕ) (sixteen : length flags ≡ 16) (few : first ≤ 16) where
  shifted-small : mask_l flags / 2 ^ first * 2 ^ first < 65536
  shifted-small =
      omega (
        arith,
        div-mul-le_self (mask_l flags) (2 ^ first),
        subst (λ n. mask_l flags < 2 ^ n) sixteen (mask_l-lt flags),
      )

  shifted-whole : mask_l flags / 2 ^ first * 2 ^ first % 18446744073709551616
      ≡ mask_l flags / 2 ^ first * 2 ^ first
  shifted-whole = mod-eq_of_lt (omega (arith, shifted-small))

  pub shifted-below : mask_l flags / 2 ^ first * 2 ^ first % 18446744073709551616 < 65536
  shifted-below = omega (arith, shifted-whole, shifted-small)

  pub shifted-mask : mask_l flags / 2 ^ first * 2 ^ first % 18446744073709551616
      ≡ mask_l (from_flag first flags)
  shifted-mask = shifted-whole ∙ mask-from first flags (omega (arith, few, sixteen))

  pub sixteen-from : length (from_flag first flags) ≡ 16
  sixteen-from = length-from first flags (omega (arith, few, sixteen)) ∙ sixteen

-- the bytes that are kept
abbrev pub keeps : Base → ℕ → Bool
keeps base byte = not (is_ignored (meaning base byte))

twice-not : (flag : Bool) → flag ≡ not (not flag)
twice-not true = refl
twice-not false = refl

filter-kept : (base : Base) (ignored : IgnoredBytes) → HoldsIgnored base ignored → (bytes : List ℕ)
    → Each1 (λ byte. byte < 256) bytes
    → filter (λ byte. ignored_bit ignored byte == 0) bytes ≡ filter (keeps base) bytes
filter-kept base ignored held [] fits = refl
filter-kept base ignored held (byte ∷ bytes) fits =
    let here : (ignored_bit ignored byte == 0) ≡ keeps base byte =
    twice-not (ignored_bit ignored byte == 0) ∙ ap not (sym (held.at_byte byte fits.0)) in
    λ i. cond (here i) (byte ∷ filter-kept base ignored held bytes fits.1 i)
    (filter-kept base ignored held bytes fits.1 i)

-- how many are kept
pub count-kept : (base : Base) (ignored : IgnoredBytes) → HoldsIgnored base ignored
    → (part : List ℕ) → Each1 (λ byte. byte < 256) part → (count : ℕ)
    → count ≡ count_ones (mask_l (map (λ byte. ignored_bit ignored byte == 0) part))
    → count ≡ length (kept base part)
count-kept base ignored held part fits count is =
    let flag = λ (byte : ℕ). ignored_bit ignored byte == 0 in
    is
    ∙ picked-count (map flag part) part (length-map part flag)
    ∙ ap length (picked-passes flag part ∙ filter-kept base ignored held part fits
    ∙ sym (bytes-kept_in base 0 part))
    ∙ length-map (kept base part) _

each-dropped : (first : ℕ) (bytes : List ℕ) → Each1 (λ byte. byte < 256) bytes
    → Each1 (λ byte. byte < 256) (drop first bytes)
each-dropped zero bytes fits = fits
each-dropped (suc first) [] fits = tt
each-dropped (suc first) (byte ∷ bytes) fits = each-dropped first bytes fits.1

-- the packed bytes of sixteen, from one on
module _ (ignored : IgnoredBytes) (bytes : List ℕ) (first : ℕ) (sixteen : length bytes ≡ 16)
    (few : first ≤ 16) where
  abbrev kept_flag : ℕ → Bool
  kept_flag byte = ignored_bit ignored byte == 0

  abbrev pub flags_from : List Bool
  flags_from = from_flag first (map kept_flag bytes)

  flags-sixteen : length (map kept_flag bytes) ≡ 16
  flags-sixteen = length-map bytes kept_flag ∙ sixteen

  pub mask-below : {mask : ℕ} → mask ≡ mask_l (map kept_flag bytes)
      → mask / 2 ^ first * 2 ^ first % 18446744073709551616 < 65536
  mask-below is =
      subst (λ n. n / 2 ^ first * 2 ^ first % 18446744073709551616 < 65536) (sym is)
      (shifted-below (map kept_flag bytes) first flags-sixteen few)

  pub mask-is : {mask : ℕ} → mask ≡ mask_l (map kept_flag bytes)
      → mask / 2 ^ first * 2 ^ first % 18446744073709551616 ≡ mask_l flags_from
  mask-is is =
      ap (λ n. n / 2 ^ first * 2 ^ first % 18446744073709551616) is
      ∙ shifted-mask (map kept_flag bytes) first flags-sixteen few

  pub flags-from-sixteen : length flags_from ≡ 16
  flags-from-sixteen = sixteen-from (map kept_flag bytes) first flags-sixteen few

  picked-from : picked flags_from bytes ≡ filter kept_flag (drop first bytes)
  picked-from =
      picked-later first (map kept_flag bytes) bytes (length-map bytes kept_flag)
      ∙ ap (λ l. picked l (drop first bytes)) (drop-map kept_flag first bytes)
      ∙ picked-passes kept_flag (drop first bytes)

  pub count-at_most : (count : ℕ) (room : List ℕ) → IsPacked flags_from bytes count room
      → count ≤ 16 - first
  count-at_most count room packed =
      omega (
        arith,
        packed.number,
        ap length picked-from,
        length-filter_both kept_flag (λ byte. not (kept_flag byte)) (λ byte. refl)
            (drop first bytes),
        length-drop first bytes,
        sixteen,
      )

  -- and is stored after the bytes that were packed before
  pub packed-more : (base : Base) → HoldsIgnored base ignored → Each1 (λ byte. byte < 256) bytes
      → (start count : ℕ) (room new : List ℕ) → start + 16 ≤ length room → length new ≡ 16
      → count ≤ 16 → IsPacked flags_from bytes count new
      → take (start + count) (put_mid start (start + 16 - start) room new)
      ≡ take start room ++ filter (keeps base) (drop first bytes)
  packed-more base held fits start count room new within exact small packed =
      let front = take start room in
      let front_len : length front ≡ start = length-take-le start room (omega (arith, within)) in
      let rest = drop (start + 16 - start) (drop start room) in
      ap (λ n. take (n + count) (front ++ (new ++ rest))) (sym front_len)
      ∙ take-append-add front (new ++ rest) count
      ∙ ap (λ l. front ++ l)
      (take-append-le count new rest (omega (arith, small, exact)) ∙ packed.are ∙ picked-from
      ∙ filter-kept base ignored held (drop first bytes) (each-dropped first bytes fits))

-- sixteen bytes more are packed
pub kept-extended : (base : Base) (part : List ℕ) (turn : ℕ) (packed : List ℕ)
    → 16 * turn + 16 ≤ length part
    → packed ≡ filter (keeps base) (take (16 * turn) part)
    ++ filter (keeps base) (take 16 (take (16 * turn + 16 - 16 * turn) (drop (16 * turn) part)))
    → packed ≡ filter (keeps base) (take (16 * (turn + 1)) part)
kept-extended base part turn packed within is =
    let front = take (16 * turn) part in
    let next = drop (16 * turn) part in
    is
    ∙ ap (λ l. filter (keeps base) front ++ filter (keeps base) l)
    (ap (take 16) (part-is (16 * turn) 16 part) ∙ take-take 16 16 next (omega arith))
    ∙ sym (filter-append (keeps base) front (take 16 next))
    ∙ ap (filter (keeps base))
    (sym (take-add (16 * turn) 16 part) ∙ ap (λ n. take n part) (omega arith))

-- and the last ones
pub kept-last : (base : Base) (part packed before last : List ℕ) (read rest : ℕ)
    → read + rest ≡ length part → last ≡ drop (length part - rest) part
    → before ≡ filter (keeps base) (take read part)
    → packed ≡ before ++ filter (keeps base) last → bytes_in (kept base part) ≡ packed
kept-last base part packed before last read rest all last_is before_is is =
    let start : read ≡ length part - rest = omega (arith, all) in
    let rest_is : drop read part ≡ drop (length part - rest) part = ap (λ n. drop n part) start in
    bytes-kept_in base 0 part
    ∙ ap (filter (keeps base)) (sym (take-append-drop read part))
    ∙ filter-append (keeps base) (take read part) (drop read part)
    ∙ (λ i. sym before_is i
    ++ filter (keeps base) ((rest_is ∙ sym last_is) i))
    ∙ sym is
