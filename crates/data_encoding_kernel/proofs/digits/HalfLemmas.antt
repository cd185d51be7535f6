-- Fields of a number that are split in two halves, each in a field of its own.
use Rattle.std.proofs.Common.{◌≡◌, ℕ, ◌+◌, ◌-◌, ◌*◌, ◌/◌, ◌%◌, ◌^◌, ◌<◌, List, [], ◌∷◌, length, map, replicate, bit_and, bit_or, refl, sym, ap, ◌∙◌, arith}
use Rattle.std.proofs.Math.Nat.{pow-succ', pow-zero, mul_assoc, mod-eq_of_lt, mod-lt, mul-lt-mul_of_pos_right}
use Rattle.std.proofs.lemmas.Nat.{and_le_l, and_le_r, and_mask, mul-le, pow-add, pow_pos}
use Rattle.std.proofs.Math.Pow.{pow_mono, shr_mod}
use Rattle.std.proofs.lemmas.Nat.Bits.{and_high}
use Rattle.std.specs.Int.Bits.{or_shifted_r}
use Rattle.std.specs.Prelude.{flat_map}
use Rattle.std.specs.List.{AllByRecursion}
use Rattle.std.specs.Simd.Lanes.{number_l}
use Rattle.data_encoding_meaning.specs.declared.encoding.BitOrder.TheVariants.{LeastSignificantFirst}
use Rattle.data_encoding_kernel.specs.Lanes.{digits_of, spread_word, halved_lane}
use Rattle.data_encoding_meaning.proofs.lists.EachLemmas.{all_weaker, map-twice}
use Rattle.data_encoding_kernel.proofs.digits.FieldLemmas.{and_fields, or_fields, times_fields}
use Rattle.data_encoding_kernel.proofs.digits.LaneLemmas.{number-of-wide, map-same}

-- a field in two halves
abbrev halves : ℕ → ℕ → List ℕ
halves half field = field % 2 ^ half ∷ field / 2 ^ half ∷ []

square : (n : ℕ) → 2 ^ (n + n) ≡ (2 ^ n) ^ 2
square n =
    let one : (2 ^ n) ^ 1 ≡ 2 ^ n =
    pow-succ' (2 ^ n) 0 ∙ ap (λ m. 2 ^ n * m) (pow-zero (2 ^ n)) ∙ omega arith in
    pow-add 2 n n ∙ ap (λ m. 2 ^ n * m) (sym one) ∙ sym (pow-succ' (2 ^ n) 1)

-- fields that are split by a mask for each half. The higher half moves up
abbrev halved : ℕ → ℕ → ℕ → ℕ → ℕ → ℕ
halved half up bits count =
    halved_lane bits (number_l (2 ^ (half + up + (half + up))) (replicate count (2 ^ half - 1)))
    (number_l (2 ^ (half + up + (half + up))) (replicate count (2 ^ (half + half) - 2 ^ half))) up

module _ (half up : ℕ) where
  -- the higher half moves up
  high_half : (field : ℕ) → field < 2 ^ (half + half)
      → bit_and field (2 ^ (half + half) - 2 ^ half) * 2 ^ up
      ≡ field / 2 ^ half * 2 ^ (half + up)
  high_half field h =
      ap (λ n. n * 2 ^ up) (and_high field half half
      ∙ ap (λ n. n * 2 ^ half) (shr_mod half half h))
      ∙ mul_assoc (field / 2 ^ half) (2 ^ half) (2 ^ up)
      ∙ ap (λ n. field / 2 ^ half * n) (sym (pow-add 2 half up))

  one_field : (field : ℕ) → field < 2 ^ (half + half)
      → bit_or (bit_and field (2 ^ half - 1))
      (bit_and field (2 ^ (half + half) - 2 ^ half) * 2 ^ up)
      ≡ number_l (2 ^ (half + up)) (halves half field)
  one_field field h =
      let low : field % 2 ^ half < 2 ^ (half + up) =
      omega (
        arith,
        mod-lt field (pow_pos half),
        pow_mono {i = half} {j = half + up} (omega arith),
      ) in
      (λ i. bit_or (and_mask field half i) (high_half field h i))
      ∙ or_shifted_r (field / 2 ^ half) (half + up) (field % 2 ^ half) low
      ∙ omega arith

  low_fits : (field : ℕ) → field < 2 ^ (half + half)
      → bit_and field (2 ^ half - 1) < 2 ^ (half + up + (half + up))
  low_fits field h =
      omega (
        arith,
        h,
        and_le_l field (2 ^ half - 1),
        pow_mono {i = half + half} {j = half + up + (half + up)} (omega arith),
      )

  high_fits : (field : ℕ) → field < 2 ^ (half + half)
      → bit_and field (2 ^ (half + half) - 2 ^ half) * 2 ^ up < 2 ^ (half + up + (half + up))
  high_fits field h =
      let masked : bit_and field (2 ^ (half + half) - 2 ^ half) < 2 ^ (half + half) =
      omega (arith, h, and_le_l field (2 ^ (half + half) - 2 ^ half)) in
      omega (
        arith,
        mul-lt-mul_of_pos_right {k = 2 ^ up} masked (pow_pos up),
        pow-add 2 (half + half) up,
        pow_mono {i = half + half + up} {j = half + up + (half + up)} (omega arith),
      )

  -- each field in two
  halved-fields : (bits : ℕ) (fields : List ℕ)
      → AllByRecursion (λ field. field < 2 ^ (half + half)) fields
      → number_l (2 ^ (half + up + (half + up)))
      (replicate (length fields) (2 ^ (half + half) - 2 ^ half)) * 2 ^ up < 2 ^ bits
      → halved half up bits (length fields) (number_l (2 ^ (half + up + (half + up))) fields)
      ≡ number_l (2 ^ (half + up)) (flat_map (halves half) fields)
  halved-fields bits fields h room =
      let k = half + up + (half + up) in
      let all = number_l (2 ^ k) fields in
      let wide = pow_mono {i = half + half} {j = k} (omega arith) in
      let fits = all_weaker (λ field. field < 2 ^ (half + half)) (λ field. field < 2 ^ k)
      (λ field less. omega arith) fields h in
      let mask = 2 ^ (half + half) - 2 ^ half in
      let masks = number_l (2 ^ k) (replicate (length fields) mask) in
      let low = and_fields k (2 ^ half - 1)
      (omega (arith, pow_mono {i = half} {j = k} (omega arith), pow_pos half)) fields fits in
      let high = and_fields k mask (omega (arith, wide, pow_pos half, pow_pos (half + half)))
      fields fits in
      let less : bit_and all masks * 2 ^ up < 2 ^ bits =
      omega (
        arith,
        room,
        mul-le (bit_and all masks) (2 ^ up) masks (2 ^ up) (and_le_r all masks) (omega arith),
      ) in
      let moved : bit_and all masks * 2 ^ up % 2 ^ bits
      ≡ number_l (2 ^ k) (map (λ field. bit_and field mask * 2 ^ up) fields) =
      mod-eq_of_lt less
      ∙ ap (λ n. n * 2 ^ up) high
      ∙ times_fields (2 ^ k) (2 ^ up) (map (λ field. bit_and field mask) fields)
      ∙ ap (number_l (2 ^ k)) (map-twice (λ n. n * 2 ^ up) (λ field. bit_and field mask) fields) in
      (λ i. bit_or (low i) (moved i))
      ∙ or_fields k (λ field. bit_and field (2 ^ half - 1)) (λ field. bit_and field mask * 2 ^ up)
      (λ field. field < 2 ^ (half + half)) low_fits high_fits fields h
      ∙ ap (number_l (2 ^ k)) (map-same (λ field. field < 2 ^ (half + half))
      (λ field. bit_or (bit_and field (2 ^ half - 1)) (bit_and field mask * 2 ^ up))
      (λ field. number_l (2 ^ (half + up)) (halves half field)) one_field fields h)
      ∙ number-of-wide (2 ^ (half + up)) 2 (2 ^ k) (square (half + up)) (halves half) fields
      (λ field. refl)

-- 2 digits of 4 bits, in lanes of 16 bits
pub spread-four : (word : ℕ) → word < 2 ^ 8
    → halved 4 4 16 1 word
    ≡ spread_word 4 2 word
spread-four word h =
    let whole : word ≡ number_l (2 ^ 16) (word ∷ []) = omega arith in
    let digits : flat_map (halves 4) (word ∷ []) ≡ digits_of LeastSignificantFirst 4 2 word =
    search arith depth 10 in
    ap (λ n. halved 4 4 16 1 n) whole
    ∙ halved-fields 4 4 16 (word ∷ []) (omega arith) (omega arith)
    ∙ ap (number_l 256) digits

-- 4 digits of 2 bits, in lanes of 32 bits
pub spread-two : (word : ℕ) → word < 2 ^ 8
    → halved 2 6 32 2 (halved 4 12 32 1 word)
    ≡ spread_word 2 4 word
spread-two word h =
    let whole : word ≡ number_l (2 ^ 32) (word ∷ []) = omega arith in
    let pairs = flat_map (halves 4) (word ∷ []) in
    let digits : flat_map (halves 2) pairs ≡ digits_of LeastSignificantFirst 2 4 word =
    search arith depth 10 in
    ap (λ n. halved 2 6 32 2 (halved 4 12 32 1 n)) whole
    ∙ ap (halved 2 6 32 2)
    (halved-fields 4 12 32 (word ∷ []) (omega arith) (omega arith))
    ∙ halved-fields 2 6 32 pairs (omega arith) (omega arith)
    ∙ ap (number_l 256) digits

-- 4 digits of 6 bits, in lanes of 32 bits
pub spread-six : (word : ℕ) → word < 2 ^ 24
    → halved 6 2 32 2 (halved 12 4 32 1 word)
    ≡ spread_word 6 4 word
spread-six word h =
    let whole : word ≡ number_l (2 ^ 32) (word ∷ []) = omega arith in
    let pairs = flat_map (halves 12) (word ∷ []) in
    let digits : flat_map (halves 6) pairs ≡ digits_of LeastSignificantFirst 6 4 word =
    search arith depth 10 in
    ap (λ n. halved 6 2 32 2 (halved 12 4 32 1 n)) whole
    ∙ ap (halved 6 2 32 2)
    (halved-fields 12 4 32 (word ∷ []) (omega arith) (omega arith))
    ∙ halved-fields 6 2 32 pairs (omega arith) (omega arith)
    ∙ ap (number_l 256) digits

-- 8 digits of 1 bit, in lanes of 64 bits
pub spread-one : (word : ℕ) → word < 2 ^ 8
    → halved 1 7 64 4 (halved 2 14 64 2 (halved 4 28 64 1 word))
    ≡ spread_word 1 8 word
spread-one word h =
    let whole : word ≡ number_l (2 ^ 64) (word ∷ []) = omega arith in
    let pairs = flat_map (halves 4) (word ∷ []) in
    let fours = flat_map (halves 2) pairs in
    let digits : flat_map (halves 1) fours ≡ digits_of LeastSignificantFirst 1 8 word =
    search arith depth 10 in
    ap (λ n. halved 1 7 64 4 (halved 2 14 64 2 (halved 4 28 64 1 n))) whole
    ∙ ap (λ n. halved 1 7 64 4 (halved 2 14 64 2 n))
    (halved-fields 4 28 64 (word ∷ []) (omega arith) (omega arith))
    ∙ ap (halved 1 7 64 4)
    (halved-fields 2 14 64 pairs (omega arith) (omega arith))
    ∙ halved-fields 1 7 64 fours (omega arith) (omega arith)
    ∙ ap (number_l 256) digits

-- 8 digits of 3 bits, in lanes of 64 bits
pub spread-three : (word : ℕ) → word < 2 ^ 24
    → halved 3 5 64 4 (halved 6 10 64 2 (halved 12 20 64 1 word))
    ≡ spread_word 3 8 word
spread-three word h =
    let whole : word ≡ number_l (2 ^ 64) (word ∷ []) = omega arith in
    let pairs = flat_map (halves 12) (word ∷ []) in
    let fours = flat_map (halves 6) pairs in
    let digits : flat_map (halves 3) fours ≡ digits_of LeastSignificantFirst 3 8 word =
    search arith depth 10 in
    ap (λ n. halved 3 5 64 4 (halved 6 10 64 2 (halved 12 20 64 1 n))) whole
    ∙ ap (λ n. halved 3 5 64 4 (halved 6 10 64 2 n))
    (halved-fields 12 20 64 (word ∷ []) (omega arith) (omega arith))
    ∙ ap (halved 3 5 64 4)
    (halved-fields 6 10 64 pairs (omega arith) (omega arith))
    ∙ halved-fields 3 5 64 fours (omega arith) (omega arith)
    ∙ ap (number_l 256) digits

-- 8 digits of 5 bits, in lanes of 64 bits
pub spread-five : (word : ℕ) → word < 2 ^ 40
    → halved 5 3 64 4 (halved 10 6 64 2 (halved 20 12 64 1 word))
    ≡ spread_word 5 8 word
spread-five word h =
    let whole : word ≡ number_l (2 ^ 64) (word ∷ []) = omega arith in
    let pairs = flat_map (halves 20) (word ∷ []) in
    let fours = flat_map (halves 10) pairs in
    let digits : flat_map (halves 5) fours ≡ digits_of LeastSignificantFirst 5 8 word =
    search arith depth 10 in
    ap (λ n. halved 5 3 64 4 (halved 10 6 64 2 (halved 20 12 64 1 n))) whole
    ∙ ap (λ n. halved 5 3 64 4 (halved 10 6 64 2 n))
    (halved-fields 20 12 64 (word ∷ []) (omega arith) (omega arith))
    ∙ ap (halved 5 3 64 4)
    (halved-fields 10 6 64 pairs (omega arith) (omega arith))
    ∙ halved-fields 5 3 64 fours (omega arith) (omega arith)
    ∙ ap (number_l 256) digits
