-- Pairs of digits in lanes of sixteen bits, moved to a byte each by products.
use Rattle.std.proofs.Common.{◌≡◌, ℕ, zero, suc, ◌+◌, ◌*◌, ◌/◌, ◌%◌, ◌^◌, ◌<◌, ◌≤◌, ◌-◌, List, [], ◌∷◌, ◌++◌, length, map, take, get_or, replicate, bit_and, bit_or, Fits, w16, refl, sym, ap, ◌∙◌, arith, length-take-le}
use Rattle.std.proofs.Math.Nat.{mod-lt}
use Rattle.std.proofs.Math.Pow.{pow_mono}
use Rattle.std.proofs.lemmas.List.{get_or-take, get_or_append_left, get_or-append_right, map-id}
use Rattle.std.proofs.lemmas.Nat.{pow_pos}
use Rattle.std.proofs.lemmas.Nat.Bits.{and_high}
use Rattle.std.proofs.lemmas.Simd.{zip2_splat, length-zip2}
use Rattle.std.specs.Prelude.{flat_map}
use Rattle.std.specs.Int.Bits.{or_shifted_r}
use Rattle.std.specs.List.{AllByRecursion, range_with_len}
use Rattle.std.specs.Simd.{first_chunks}
use Rattle.std.specs.Simd.Lanes.{Each1, digits_l, number_l, zip2}
use Rattle.data_encoding_meaning.specs.declared.encoding.BitOrder.TheVariants.{MostSignificantFirst}
use Rattle.data_encoding_kernel.specs.Lanes.{group_word}
use Rattle.data_encoding_kernel.specs.DigitPairs.{high_half, low_half, split_lanes}
use Rattle.data_encoding_kernel.specs.Words.{digit, weight}
use Rattle.data_encoding_kernel.proofs.digits.GatherWordLemmas.{pairs-of}
use Rattle.data_encoding_kernel.proofs.digits.GroupWordLemmas.{lane-word}
use Rattle.data_encoding_kernel.proofs.digits.LaneLemmas.{bytes-of-lanes, map-same}

abbrev product : ℕ → ℕ → ℕ
product a b = a * b % 2 ^ 32

abbrev down : ℕ → ℕ → ℕ
down a b = a / 2 ^ b

-- the higher half of a product of 32 bits is one of sixteen
pub halves-fit : (n : ℕ) (lanes factors : List ℕ)
    → Each1 (Fits w16) (zip2 down (zip2 product lanes factors) (replicate n 16))
halves-fit n [] factors = tt
halves-fit n (lane ∷ lanes) [] = tt
halves-fit zero (lane ∷ lanes) (factor ∷ factors) = tt
halves-fit (suc n) (lane ∷ lanes) (factor ∷ factors) =
    (record { fits = omega arith }, halves-fit n lanes factors)

halves : (lanes factors : List ℕ)
    → map (λ n. down n 16) (zip2 product lanes factors) ≡ zip2 high_half lanes factors
halves [] factors = refl
halves (lane ∷ lanes) [] = refl
halves (lane ∷ lanes) (factor ∷ factors) =
    ap (λ l. high_half lane factor ∷ l) (halves lanes factors)

-- lanes that are split in two, as they are computed
pub split-are : (masks downs ups kept lanes : List ℕ) → length lanes ≡ 16 → length masks ≡ 16
    → length downs ≡ 16
    → zip2 bit_or (map (λ (n : ℕ). n)
    (zip2 down (zip2 product (map (λ (n : ℕ). n) (zip2 bit_and lanes masks))
    (map (λ (n : ℕ). n) downs)) (replicate 16 16)))
    (zip2 bit_and (zip2 low_half lanes ups) kept)
    ≡ split_lanes masks downs ups kept lanes
split-are masks downs ups kept lanes long long_masks long_downs =
    let first = zip2 bit_and lanes masks in
    let long_first : length first ≡ 16 =
    length-zip2 bit_and lanes masks (long ∙ sym long_masks) ∙ long in
    let long_product : length (zip2 product first downs) ≡ 16 =
    length-zip2 product first downs (long_first ∙ sym long_downs) ∙ long_first in
    ap (λ l. zip2 bit_or l (zip2 bit_and (zip2 low_half lanes ups) kept))
    (map-id (zip2 down (zip2 product (map (λ (n : ℕ). n) first) (map (λ (n : ℕ). n) downs))
    (replicate 16 16))
    ∙ (λ i. zip2 down (zip2 product (map-id first i) (map-id downs i)) (replicate 16 16))
    ∙ zip2_splat down (zip2 product first downs) 16 16 long_product
    ∙ halves first downs)

-- a lane that is split
abbrev split_lane : ℕ → ℕ → ℕ → ℕ → ℕ → ℕ
split_lane mask factor up kept lane =
    bit_or (high_half (bit_and lane mask) factor) (bit_and (low_half lane up) kept)

-- two digits of a lane, which are above these numbers of bits, in a byte each
one-lane : (width high low factor up lane : ℕ) → width ≤ 8
    → high_half (lane / 2 ^ high % 2 ^ width * 2 ^ high) factor ≡ lane / 2 ^ high % 2 ^ width
    → low_half lane up / 2 ^ 8 % 2 ^ width ≡ lane / 2 ^ low % 2 ^ width
    → split_lane (2 ^ (width + high) - 2 ^ high) factor up (2 ^ (width + 8) - 2 ^ 8) lane
    ≡ number_l 256 (lane / 2 ^ high % 2 ^ width ∷ lane / 2 ^ low % 2 ^ width ∷ [])
one-lane width high low factor up lane narrow lifted raised =
    let first = lane / 2 ^ high % 2 ^ width in
    let second = lane / 2 ^ low % 2 ^ width in
    let below : first < 2 ^ 8 =
    omega (arith, mod-lt (lane / 2 ^ high) (pow_pos width), pow_mono {i = width} {j = 8} narrow) in
    (λ i. bit_or (high_half (and_high lane width high i) factor)
    (and_high (low_half lane up) width 8 i))
    ∙ (λ i. bit_or (lifted i) (raised i * 2 ^ 8))
    ∙ or_shifted_r second 8 first below
    ∙ omega arith

-- two digits of a word, by the index of the first
abbrev pub six : ℕ → ℕ → List ℕ
six word index =
    digit MostSignificantFirst 6 4 word index ∷ digit MostSignificantFirst 6 4 word (index + 1) ∷ []

abbrev pub five : ℕ → ℕ → List ℕ
five word index =
    digit MostSignificantFirst 5 8 word index ∷ digit MostSignificantFirst 5 8 word (index + 1) ∷ []

digit-below : (width count word index : ℕ) → width ≤ 8
    → digit MostSignificantFirst width count word index < 256
digit-below width count word index narrow =
    let n = word / 2 ^ weight MostSignificantFirst width count index in
    omega (arith, mod-lt n (pow_pos width), pow_mono {i = width} {j = 8} narrow)

pub six-fits : (word index : ℕ) → AllByRecursion (λ x. x < 256) (six word index)
six-fits word index =
    let below = λ (k : ℕ). digit-below 6 4 word k (omega arith) in
    (below index, (below (index + 1), tt))

pub five-fits : (word index : ℕ) → AllByRecursion (λ x. x < 256) (five word index)
five-fits word index =
    let below = λ (k : ℕ). digit-below 5 8 word k (omega arith) in
    (below index, (below (index + 1), tt))

-- six bits a digit, from a word of three bytes
module _ (word : ℕ) {a b c : ℕ} (small_a : a < 256) (small_b : b < 256) (small_c : c < 256)
    (is : number_l 256 (c ∷ b ∷ a ∷ []) ≡ word) where
  pub six-first : split_lane 64512 65 32784 16128 (number_l 256 (b ∷ a ∷ []))
      ≡ number_l 256 (six word 0)
  six-first =
      one-lane 6 10 4 65 32784 (number_l 256 (b ∷ a ∷ [])) (omega arith) (omega arith) (omega arith)
      ∙ ap (number_l 256) (λ i. high i ∷ low i ∷ [])
    where
      high : number_l 256 (b ∷ a ∷ []) / 2 ^ 10 % 2 ^ 6 ≡ digit MostSignificantFirst 6 4 word 0
      high = omega arith

      low : number_l 256 (b ∷ a ∷ []) / 2 ^ 4 % 2 ^ 6 ≡ digit MostSignificantFirst 6 4 word 1
      low = omega arith

  pub six-second : split_lane 4032 1025 33024 16128 (number_l 256 (c ∷ b ∷ []))
      ≡ number_l 256 (six word 2)
  six-second =
      one-lane 6 6 0 1025 33024 (number_l 256 (c ∷ b ∷ [])) (omega arith) (omega arith)
      (omega arith)
      ∙ ap (number_l 256) (λ i. high i ∷ low i ∷ [])
    where
      high : number_l 256 (c ∷ b ∷ []) / 2 ^ 6 % 2 ^ 6 ≡ digit MostSignificantFirst 6 4 word 2
      high = omega arith

      low : number_l 256 (c ∷ b ∷ []) / 2 ^ 0 % 2 ^ 6 ≡ digit MostSignificantFirst 6 4 word 3
      low = omega arith

-- five bits a digit, from a word of five bytes
module _ (word : ℕ) {a b c d e : ℕ} (small_a : a < 256) (small_b : b < 256) (small_c : c < 256)
    (small_d : d < 256) (small_e : e < 256)
    (is : number_l 256 (e ∷ d ∷ c ∷ b ∷ a ∷ []) ≡ word) where
  pub five-first : split_lane 63488 33 32772 7936 (number_l 256 (b ∷ a ∷ []))
      ≡ number_l 256 (five word 0)
  five-first =
      one-lane 5 11 6 33 32772 (number_l 256 (b ∷ a ∷ [])) (omega arith) (omega arith) (omega arith)
      ∙ ap (number_l 256) (λ i. high i ∷ low i ∷ [])
    where
      high : number_l 256 (b ∷ a ∷ []) / 2 ^ 11 % 2 ^ 5 ≡ digit MostSignificantFirst 5 8 word 0
      high = omega arith

      low : number_l 256 (b ∷ a ∷ []) / 2 ^ 6 % 2 ^ 5 ≡ digit MostSignificantFirst 5 8 word 1
      low = omega arith

  pub five-second : split_lane 15872 129 32784 7936 (number_l 256 (c ∷ b ∷ []))
      ≡ number_l 256 (five word 2)
  five-second =
      one-lane 5 9 4 129 32784 (number_l 256 (c ∷ b ∷ [])) (omega arith) (omega arith) (omega arith)
      ∙ ap (number_l 256) (λ i. high i ∷ low i ∷ [])
    where
      high : number_l 256 (c ∷ b ∷ []) / 2 ^ 9 % 2 ^ 5 ≡ digit MostSignificantFirst 5 8 word 2
      high = omega arith

      low : number_l 256 (c ∷ b ∷ []) / 2 ^ 4 % 2 ^ 5 ≡ digit MostSignificantFirst 5 8 word 3
      low = omega arith

  pub five-third : split_lane 3968 513 32832 7936 (number_l 256 (d ∷ c ∷ []))
      ≡ number_l 256 (five word 4)
  five-third =
      one-lane 5 7 2 513 32832 (number_l 256 (d ∷ c ∷ [])) (omega arith) (omega arith) (omega arith)
      ∙ ap (number_l 256) (λ i. high i ∷ low i ∷ [])
    where
      high : number_l 256 (d ∷ c ∷ []) / 2 ^ 7 % 2 ^ 5 ≡ digit MostSignificantFirst 5 8 word 4
      high = omega arith

      low : number_l 256 (d ∷ c ∷ []) / 2 ^ 2 % 2 ^ 5 ≡ digit MostSignificantFirst 5 8 word 5
      low = omega arith

  pub five-fourth : split_lane 992 2049 33024 7936 (number_l 256 (e ∷ d ∷ []))
      ≡ number_l 256 (five word 6)
  five-fourth =
      one-lane 5 5 0 2049 33024 (number_l 256 (e ∷ d ∷ [])) (omega arith) (omega arith)
      (omega arith)
      ∙ ap (number_l 256) (λ i. high i ∷ low i ∷ [])
    where
      high : number_l 256 (e ∷ d ∷ []) / 2 ^ 5 % 2 ^ 5 ≡ digit MostSignificantFirst 5 8 word 6
      high = omega arith

      low : number_l 256 (e ∷ d ∷ []) / 2 ^ 0 % 2 ^ 5 ≡ digit MostSignificantFirst 5 8 word 7
      low = omega arith

-- lanes of two bytes each, split to the digits of words
pub pairs-are : (bytes : List ℕ) (pair : ℕ → List ℕ) (masks downs ups kept : List ℕ)
    → length bytes ≡ 32 → AllByRecursion (λ x. x < 256) bytes
    → ((k : ℕ) → length (pair k) ≡ 2) → ((k : ℕ) → AllByRecursion (λ x. x < 256) (pair k))
    → split_lanes masks downs ups kept (map (number_l 256) (first_chunks 2 16 bytes))
    ≡ map (λ k. number_l 256 (pair k)) (range_with_len 0 16)
    → digits_l 256 32 (number_l 65536 (split_lanes masks downs ups kept
    (digits_l 65536 16 (number_l 256 bytes))))
    ≡ flat_map pair (range_with_len 0 16)
pairs-are bytes pair masks downs ups kept long below two fit is =
    ap (λ l. digits_l 256 32 (number_l 65536 (split_lanes masks downs ups kept l)))
    (pairs-of 256 16 bytes below long)
    ∙ ap (λ l. digits_l 256 32 (number_l 65536 l)) is
    ∙ bytes-of-lanes 2 65536 32 refl pair (range_with_len 0 16) refl two fit

-- the groups of the first sixteen bytes
module _ (input : List ℕ) (long : 16 ≤ length input)
    (small : (k : ℕ) → get_or input k 0 < 256) where
  abbrev pub byte : ℕ → ℕ
  byte k = get_or (take 16 input) k 0

  byte-below : (k : ℕ) → k < 16 → byte k < 256
  byte-below k h = rw (get_or-take 16 input k 0 h) (small k)

  pub bytes-below : (places : List ℕ) → AllByRecursion (λ place. place < 16) places
      → AllByRecursion (λ x. x < 256) (map byte places)
  bytes-below [] h = tt
  bytes-below (place ∷ places) h = (byte-below place h.0, bytes-below places h.1)

  abbrev six_of : ℕ → ℕ → List ℕ
  six_of group index = six (group_word MostSignificantFirst 3 input group) index

  abbrev SixOf : ℕ → ℕ → ℕ → ℕ → Type 0
  SixOf group a b c =
      (split_lane 64512 65 32784 16128 (number_l 256 (b ∷ a ∷ [])) ≡ number_l 256 (six_of group 0))
      × (split_lane 4032 1025 33024 16128 (number_l 256 (c ∷ b ∷ []))
      ≡ number_l 256 (six_of group 2))

  pub six-of : (k : ℕ) → 3 * k + 3 ≤ 16
      → SixOf k (byte (3 * k)) (byte (3 * k + 1)) (byte (3 * k + 1 + 1))
  six-of k h =
      let word = group_word MostSignificantFirst 3 input k in
      let a = byte-below (3 * k) (omega (arith, h)) in
      let b = byte-below (3 * k + 1) (omega (arith, h)) in
      let c = byte-below (3 * k + 1 + 1) (omega (arith, h)) in
      let is = lane-word MostSignificantFirst 3 0 input long small k h in
      (six-first word a b c is, six-second word a b c is)

  abbrev five_of : ℕ → ℕ → List ℕ
  five_of group index = five (group_word MostSignificantFirst 5 input group) index

  abbrev FiveOf : ℕ → ℕ → ℕ → ℕ → ℕ → ℕ → Type 0
  FiveOf group a b c d e =
      (split_lane 63488 33 32772 7936 (number_l 256 (b ∷ a ∷ [])) ≡ number_l 256 (five_of group 0))
      × (split_lane 15872 129 32784 7936 (number_l 256 (c ∷ b ∷ []))
      ≡ number_l 256 (five_of group 2))
      × (split_lane 3968 513 32832 7936 (number_l 256 (d ∷ c ∷ []))
      ≡ number_l 256 (five_of group 4))
      × (split_lane 992 2049 33024 7936 (number_l 256 (e ∷ d ∷ []))
      ≡ number_l 256 (five_of group 6))

  pub five-of : (k : ℕ) → 5 * k + 5 ≤ 16
      → FiveOf k (byte (5 * k)) (byte (5 * k + 1)) (byte (5 * k + 1 + 1))
      (byte (5 * k + 1 + 1 + 1)) (byte (5 * k + 1 + 1 + 1 + 1))
  five-of k h =
      let word = group_word MostSignificantFirst 5 input k in
      let a = byte-below (5 * k) (omega (arith, h)) in
      let b = byte-below (5 * k + 1) (omega (arith, h)) in
      let c = byte-below (5 * k + 1 + 1) (omega (arith, h)) in
      let d = byte-below (5 * k + 1 + 1 + 1) (omega (arith, h)) in
      let e = byte-below (5 * k + 1 + 1 + 1 + 1) (omega (arith, h)) in
      let is = lane-word MostSignificantFirst 5 0 input long small k h in (
        five-first word a b c d e is,
        five-second word a b c d e is,
        five-third word a b c d e is,
        five-fourth word a b c d e is,
      )

-- the bytes at places of the first and the second sixteen of two joined loads
pub both-bytes : (first second : List ℕ) → 16 ≤ length first → (places : List ℕ)
    → AllByRecursion (λ place. place < 16) places
    → map (λ k. get_or (take 16 first ++ take 16 second) k 0) places
    ++ map (λ k. get_or (take 16 first ++ take 16 second) (16 + k) 0) places
    ≡ map (λ k. get_or (take 16 first) k 0) places ++ map (λ k. get_or (take 16 second) k 0) places
both-bytes first second long places few =
    let both = take 16 first ++ take 16 second in
    let size : length (take 16 first) ≡ 16 = length-take-le 16 first long in
    (λ i. map-same (λ place. place < 16) (λ k. get_or both k 0)
    (λ k. get_or (take 16 first) k 0)
    (λ k h. get_or_append_left (take 16 first) (take 16 second) 0 k (omega (arith, h, size)))
    places few i
    ++ map-same (λ place. place < 16) (λ k. get_or both (16 + k) 0)
    (λ k. get_or (take 16 second) k 0)
    (λ k h. get_or-append_right (take 16 first) (take 16 second) 16 (16 + k) 0 size (omega arith)
    ∙ ap (λ n. get_or (take 16 second) n 0) (omega arith))
    places few i)
