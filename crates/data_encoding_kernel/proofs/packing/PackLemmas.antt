-- Lanes that are packed by a row of moves.
use Rattle.std.proofs.Common.{◌≡◌, ℕ, ◌+◌, ◌-◌, ◌*◌, ◌/◌, ◌^◌, ◌<◌, ◌≤◌, Bool, false, cond, leb, List, [], ◌∷◌, ◌++◌, length, map, take, drop, get_or, bit_and, w8, refl, sym, ap, ◌∙◌, subst, arith, length-append, length-take-le}
use Rattle.std.proofs.lemmas.Bool.Decides.{nat_tests}
use Rattle.std.proofs.Math.Nat.{pow-succ'}
use Rattle.std.proofs.Math.Seq.{take-append-add}
use Rattle.std.proofs.lemmas.Nat.{and_mask}
use Rattle.std.proofs.lemmas.List.{drop-drop, length-drop, take-append-drop, take-append-le, take-map, take_all}
use Rattle.std.proofs.lemmas.Simd.{SwzOk, SwzOk-from_below, mask_l-lt, pick_l-range_with_len, pick_l_left}
use borrow.Rule.Slice.PartMut.{put_mid}
use Rattle.data_encoding_meaning.proofs.lists.WriteLemmas.{drop-put_mid_at}
use Rattle.std.specs.Int.RustNames.{count_ones}
use Rattle.std.specs.List.{AllByRecursion, range_with_len}
use Rattle.std.specs.Simd.Lanes.{Each1, digits_l, mask_l, pick_l, put_chunk}
use Rattle.std.proofs.lemmas.Simd.{put_chunk_whole}
use Rattle.data_encoding_kernel.specs.Ignore.{IsPacked, picked}
use Rattle.data_encoding_kernel.proofs.digits.LaneLemmas.{map-same}
use Rattle.data_encoding_kernel.proofs.packing.PickedLemmas.{picked-append, picked-count, picked-map}

-- the rest of a word after its eight bytes
no-ninth_byte : (row : ℕ) → row < 18446744073709551616
    → row / 256 / 256 / 256 / 256 / 256 / 256 / 256 / 256 ≡ 0
no-ninth_byte row h = omega (arith, h)

each-below : (few most : ℕ) → few ≤ most → (xs : List ℕ) → AllByRecursion (λ x. x < few) xs
    → (rest : List ℕ) → Each1 (λ x. x < most) rest → Each1 (λ x. x < most) (xs ++ rest)
each-below few most h [] all rest more = more
each-below few most h (x ∷ xs) all rest more =
    (omega (arith, h, all.0), each-below few most h xs all.1 rest more)

-- the places in sixteen lanes
pub places-ok : (row : ℕ) → row < 18446744073709551616
    → AllByRecursion (λ place. place < 8) (digits_l 256 8 row)
    → SwzOk w8 16 16 0 (digits_l 256 16 row)
places-ok row h few =
    SwzOk-from_below w8 16 1 16 0 (digits_l 256 16 row) refl (omega arith)
    (each-below 8 16 (omega arith) (digits_l 256 8 row) few
    (digits_l 256 8 (row / 256 / 256 / 256 / 256 / 256 / 256 / 256 / 256))
    (subst (λ n. Each1 (λ x. x < 16) (digits_l 256 8 n)) (sym (no-ninth_byte row h))
    (search arith depth 12)))

-- a lane that is moved
abbrev pub moved : List ℕ → ℕ → ℕ
moved bytes place = cond (leb 128 place) 0 (get_or bytes (0 + place) 0)

not-above : (most place : ℕ) → place < most → leb most place ≡ false
not-above most place h = grind (arith, nat_tests)

moved-is : (bytes : List ℕ) (place : ℕ) → place < 8 → moved bytes place ≡ get_or bytes place 0
moved-is bytes place h =
    ap (λ b. cond b 0 (get_or bytes (0 + place) 0)) (not-above 128 place (omega (arith, h)))
    ∙ ap (λ k. get_or bytes k 0) (omega arith)

pub packed-eight : (flags : List Bool) (row : ℕ) (bytes room : List ℕ) → length flags ≡ 8
    → length bytes ≡ 16 → length room ≡ 8
    → AllByRecursion (λ place. place < 8) (digits_l 256 8 row)
    → take (length (picked flags (range_with_len 0 8))) (digits_l 256 8 row)
    ≡ picked flags (range_with_len 0 8)
    → (count : ℕ) → count ≡ count_ones (mask_l flags)
    → IsPacked flags (take 8 bytes) count
    (put_chunk 0 room (map (moved bytes) (digits_l 256 8 row)))
packed-eight flags row bytes room eight long exact few begins count ones =
    let at = λ (k : ℕ). get_or bytes k 0 in
    let range = range_with_len 0 8 in
    let places = digits_l 256 8 row in
    let moved_are : map (moved bytes) places ≡ map at places =
    map-same (λ place. place < 8) (moved bytes) at (moved-is bytes) places few in
    let number : count ≡ length (picked flags range) =
    ones ∙ picked-count flags range (omega (arith, eight)) in
    record {
      number = ones
          ∙ picked-count flags (take 8 bytes)
          (omega (arith, eight, length-take-le 8 bytes (omega (arith, long))));
      are = ap (take count) (put_chunk_whole room (map (moved bytes) places) (omega (arith, exact))
          ∙ moved_are)
          ∙ take-map at count places ∙ ap (λ n. map at (take n places)) number
          ∙ ap (map at) begins ∙ sym (picked-map at flags range)
          ∙ ap (picked flags) (pick_l-range_with_len 0 bytes 0 8 (omega (arith, long)));
    }

mask-joined : (flags others : List Bool)
    → mask_l (flags ++ others) ≡ mask_l flags + 2 ^ length flags * mask_l others
mask-joined [] others = omega arith
mask-joined (flag ∷ flags) others =
    omega (
      arith,
      mask-joined flags others,
      ap (λ n. n * mask_l others) (pow-succ' 2 (length flags)),
    )

module _ (flags : List Bool) (sixteen : length flags ≡ 16) where
  halves : flags ≡ take 8 flags ++ drop 8 flags
  halves = sym (take-append-drop 8 flags)

  pub first-eight : length (take 8 flags) ≡ 8
  first-eight = length-take-le 8 flags (omega (arith, sixteen))

  mask-halves : mask_l flags ≡ mask_l (take 8 flags) + 256 * mask_l (drop 8 flags)
  mask-halves =
      ap mask_l halves ∙ mask-joined (take 8 flags) (drop 8 flags)
      ∙ ap (λ n. mask_l (take 8 flags) + 2 ^ n * mask_l (drop 8 flags)) first-eight

  first-below : mask_l (take 8 flags) < 256
  first-below = subst (λ n. mask_l (take 8 flags) < 2 ^ n) first-eight (mask_l-lt (take 8 flags))

  pub first-mask : (mask : ℕ) → mask ≡ mask_l flags → bit_and mask 255 ≡ mask_l (take 8 flags)
  first-mask mask is =
      and_mask mask 8 ∙ omega (arith, is, mask-halves, first-below)

  pub second-mask : (mask : ℕ) → mask ≡ mask_l flags → mask / 256 ≡ mask_l (drop 8 flags)
  second-mask mask is = omega (arith, is, mask-halves, first-below)

  pub second-eight : length (drop 8 flags) ≡ 8
  second-eight = omega (arith, sixteen, length-drop 8 flags)

  -- both halves, one after the other
  pub packed-sixteen : (bytes first rest second post : List ℕ) (count more : ℕ)
      → length bytes ≡ 16 → length first ≡ 8 → length second ≡ 8 → count ≤ 8 → more ≤ 8
      → IsPacked (take 8 flags) (take 8 bytes) count first
      → IsPacked (drop 8 flags) (drop 8 bytes) more second
      → IsPacked flags bytes (count + more) (take count (first ++ rest) ++ (second ++ post))
  packed-sixteen bytes first rest second post count more long first_len second_len few few_more a
      b =
      let both : picked flags bytes ≡ picked (take 8 flags) (take 8 bytes)
      ++ picked (drop 8 flags) (drop 8 bytes) =
      (λ i. picked (halves i) (sym (take-append-drop 8 bytes) i))
      ∙ picked-append (take 8 flags) (drop 8 flags) (take 8 bytes) (drop 8 bytes)
      (omega (arith, first-eight, length-take-le 8 bytes (omega (arith, long)))) in
      let front = take count first in
      let front_len : length front ≡ count =
      length-take-le count first (omega (arith, few, first_len)) in
      let here : take count (first ++ rest) ≡ front =
      take-append-le count first rest (omega (arith, few, first_len)) in
      record {
        number = omega (
          arith,
          a.number,
          b.number,
          ap length both,
          length-append (picked (take 8 flags) (take 8 bytes))
              (picked (drop 8 flags) (drop 8 bytes)),
        );
        are = ap (λ l. take (count + more) (l ++ (second ++ post))) here
            ∙ ap (λ n. take (n + more) (front ++ (second ++ post))) (sym front_len)
            ∙ take-append-add front (second ++ post) more
            ∙ ap (λ l. front ++ l)
            (take-append-le more second post (omega (arith, few_more, second_len)))
            ∙ (λ i. a.are i ++ b.are i) ∙ sym both;
      }

-- the second eight lanes, brought to the front
pub second-lanes : (bytes : List ℕ) → length bytes ≡ 16
    → take 8 (pick_l 0 (bytes ++ bytes)
    (8 ∷ 9 ∷ 10 ∷ 11 ∷ 12 ∷ 13 ∷ 14 ∷ 15 ∷ 0 ∷ 1 ∷ 2 ∷ 3 ∷ 4 ∷ 5 ∷ 6 ∷ 7 ∷ []))
    ≡ drop 8 bytes
second-lanes bytes long =
    pick_l_left 0 bytes bytes 16 (range_with_len 8 8) long tt
    ∙ pick_l-range_with_len 0 bytes 8 8 (omega (arith, long))
    ∙ take_all 8 (drop 8 bytes) (omega (arith, long, length-drop 8 bytes))

-- the last bytes of sixteen that are loaded
pub last-loaded : (part : List ℕ) (rest : ℕ) → 16 ≤ length part → rest ≤ 16
    → drop (16 - rest) (take 16 (drop (length part - 16) part)) ≡ drop (length part - rest) part
last-loaded part rest long few =
    ap (drop (16 - rest))
    (take_all 16 (drop (length part - 16) part)
    (omega (arith, long, length-drop (length part - 16) part)))
    ∙ drop-drop (16 - rest) (length part - 16) part
    ∙ ap (λ n. drop n part) (omega (arith, long, few))

-- or copied to the end of zeros
pub last-copied : (part zeros copied : List ℕ) (rest : ℕ) → length part < 16 → length zeros ≡ 16
    → copied ≡ part → rest ≤ length part
    → drop (16 - rest) (put_mid (16 - length part) (16 - (16 - length part)) zeros copied)
    ≡ drop (length part - rest) part
last-copied part zeros copied rest short sixteen same within =
    let start = 16 - length part in
    ap (λ n. drop (16 - rest) (put_mid start (n - start) zeros copied)) (sym sixteen)
    ∙ ap (λ n. drop n (put_mid start (length zeros - start) zeros copied))
    (omega (arith, short, within))
    ∙ sym (drop-drop (length part - rest) start (put_mid start (length zeros - start) zeros copied))
    ∙ ap (drop (length part - rest))
    (drop-put_mid_at start zeros copied (omega (arith, sixteen)) ∙ same)
