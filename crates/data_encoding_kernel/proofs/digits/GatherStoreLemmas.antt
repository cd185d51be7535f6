-- The bytes of words in lanes.
use Rattle.std.proofs.Common.{◌≡◌, ℕ, ◌+◌, ◌-◌, ◌*◌, ◌/◌, ◌%◌, ◌^◌, ◌<◌, ◌≤◌, List, [], ◌∷◌, ◌++◌, length, take, drop, get_or, map, w8, ⊎_elim, refl, sym, ap, ◌∙◌, subst, arith}
use Rattle.std.proofs.lemmas.Bool.{cases_lt}
use Rattle.std.proofs.lemmas.List.{get_or_past, length-map, map-id, take_all, take-take}
use Rattle.std.proofs.Math.Nat.{mod-lt}
use Rattle.std.proofs.lemmas.Simd.{Each1-get_or, length-put_chunk, pick_l_left, put_chunk_whole, take_more_put_chunk}
use mir.Syntax.{Width}
use mir.Val.{bits, Fits}
use Rattle.std.specs.Prelude.{flat_map}
use Rattle.std.specs.List.{AllByRecursion, range_with_len}
use Rattle.std.specs.Simd.Lanes.{number_l, digits_l, pick_l, put_chunk, Each1}
use Rattle.data_encoding_meaning.specs.declared.encoding.BitOrder.{BitOrder}
use Rattle.data_encoding_meaning.specs.declared.encoding.BitOrder.TheVariants.{MostSignificantFirst, LeastSignificantFirst}
use Rattle.data_encoding_kernel.specs.Lanes.{digits_of}
use Rattle.data_encoding_kernel.specs.Words.{digit}
use Rattle.data_encoding_kernel.proofs.digits.LaneLemmas.{all_mapped, by_eight, bytes-of-lanes, digits_of-below, digits-of-number, map-same, number-of-wide}
use Rattle.data_encoding_kernel.proofs.digits.AffineLemmas.{lanes-from_function}
use Rattle.data_encoding_kernel.proofs.digits.GatherWordLemmas.{number-of-digits}

-- narrower lanes hold them
narrow-enough : (w : Width) (few : ℕ) → few ≤ 2 ^ bits w → (words : List ℕ)
    → AllByRecursion (λ word. word < few) words → Each1 (Fits w) words
narrow-enough w few h [] all = tt
narrow-enough w few h (word ∷ words) all =
    (record { fits = omega (arith, h, all.0) }, narrow-enough w few h words all.1)

-- lanes hold no more than their bits
pub lanes-below : (w : Width) (words : List ℕ) → Each1 (Fits w) words
    → AllByRecursion (λ word. word < 2 ^ bits w) words
lanes-below w [] all = tt
lanes-below w (word ∷ words) all = (all.0.fits, lanes-below w words all.1)

-- two selections of the bytes of lanes, by their positions
abbrev pub picked : List ℕ → List ℕ → List ℕ → List ℕ
picked front back bytes = pick_l 0 (bytes ++ bytes) front ++ pick_l 0 (bytes ++ bytes) back

-- a selection, stored over the end of what is stored
stored-more : (i : ℕ) (output stored more : List ℕ) → i ≤ length stored
    → take (length stored) output ≡ stored → i + length more ≤ length output
    → take (i + length more) (put_chunk i output more) ≡ take i stored ++ more
stored-more i output stored more within is room =
    take_more_put_chunk i output more (i + length more) refl room
    ∙ ap (λ l. l ++ more) (sym (take-take i (length stored) output within) ∙ ap (take i) is)

-- the four bytes of the seventh lane of 32 bits
module _ (parts : List ℕ) (long : length parts ≡ 32) (fit : Each1 (Fits w8) parts) where
  abbrev byte : ℕ → ℕ
  byte k = get_or parts k 0

  abbrev lane_of : ℕ → List ℕ
  lane_of lane =
      byte (4 * lane) ∷ byte (4 * lane + 1) ∷ byte (4 * lane + 2) ∷ byte (4 * lane + 3) ∷ []

  byte-small : (k : ℕ) → byte k < 256
  byte-small k =
      ⊎_elim
      (λ (h : k < 32). (Each1-get_or (Fits w8) parts k 0 (omega (arith, h, long)) fit).fits)
      (λ (h : 32 ≤ k). omega (arith, get_or_past parts k 0 (omega (arith, h, long))))
      (cases_lt k 32)

  lane-small : (lane : ℕ) → AllByRecursion (λ x. x < 256) (lane_of lane)
  lane-small lane = (
    byte-small (4 * lane),
    (
      byte-small (4 * lane + 1),
      (
        byte-small (4 * lane + 2),
        (byte-small (4 * lane + 3), tt),
      ),
    ),
  )

  abbrev lanes : List ℕ
  lanes = digits_l 4294967296 8 (number_l 256 parts)

  abbrev numbers : List ℕ
  numbers = map (λ lane. number_l 256 (lane_of lane)) (range_with_len 0 8)

  lanes-are : lanes ≡ numbers
  lanes-are =
      ap (λ l. digits_l 4294967296 8 (number_l 256 l))
      (lanes-from_function byte 32 parts long (λ k h. refl))
      ∙ ap (digits_l 4294967296 8)
      (sym (number-of-wide 256 4 4294967296 refl lane_of (range_with_len 0 8) (λ lane. refl)))
      ∙ digits-of-number 4294967296 numbers
      (all_mapped (λ x. x < 4294967296) (λ lane. number_l 256 (lane_of lane)) (range_with_len 0 8)
      (λ lane. omega (arith, lane-small lane)))

  lane-bytes : digits_l 256 4 (number_l 4294967296 (pick_l 0 (lanes ++ lanes) (6 ∷ [])))
      ≡ lane_of 6
  lane-bytes =
      ap (λ l. digits_l 256 4 (number_l 4294967296 (pick_l 0 (l ++ l) (6 ∷ [])))) lanes-are
      ∙ bytes-of-lanes 4 4294967296 4 refl lane_of (6 ∷ []) refl (λ lane. refl) lane-small

  -- twelve bytes of each half, stored one over the end of the other
  pub stored-twelves : (output : List ℕ) → length output ≡ 24
      → put_chunk 20 (put_chunk 12
      (put_chunk 0 output (pick_l 0 (parts ++ parts) (range_with_len 0 16)))
      (pick_l 0 (parts ++ parts) (range_with_len 16 8)))
      (digits_l 256 4 (number_l 4294967296 (pick_l 0 (lanes ++ lanes) (6 ∷ []))))
      ≡ pick_l 0 parts (range_with_len 0 12) ++ pick_l 0 parts (range_with_len 16 12)
  stored-twelves output room =
      let picks = λ (ks : List ℕ). pick_l 0 (parts ++ parts) ks in
      let first = put_chunk 0 output (picks (range_with_len 0 16)) in
      let second = put_chunk 12 first (picks (range_with_len 16 8)) in
      let back = digits_l 256 4 (number_l 4294967296 (pick_l 0 (lanes ++ lanes) (6 ∷ []))) in
      let all = put_chunk 20 second back in
      let in_first : length first ≡ 24 = length-put_chunk 0 output _ ∙ room in
      let in_second : length second ≡ 24 = length-put_chunk 12 first _ ∙ in_first in
      let in_all : length all ≡ 24 = length-put_chunk 20 second back ∙ in_second in
      sym (take_all 24 all (omega (arith, in_all)))
      ∙ take_more_put_chunk 20 second back 24 refl (omega (arith, in_second))
      ∙ (λ i. stored-more 12 first (picks (range_with_len 0 16)) (picks (range_with_len 16 8))
      (omega arith)
      (take_more_put_chunk 0 output (picks (range_with_len 0 16)) 16 refl (omega (arith, room)))
      (omega (arith, in_first)) i
      ++ lane-bytes i)
      ∙ (λ i. pick_l_left 0 parts parts 32 (range_with_len 0 12) long tt i
      ++ pick_l_left 0 parts parts 32 (range_with_len 16 8) long tt i ++ lane_of 6)

-- ten bytes of each quarter, each stored over the end of the one before
pub stored-tens : (parts output : List ℕ) → length output ≡ 40
    → (let picks = λ (start count : ℕ). pick_l 0 (parts ++ parts) (range_with_len start count) in
    put_chunk 38 (put_chunk 30 (put_chunk 20 (put_chunk 10 (put_chunk 0 output (picks 0 16))
    (picks 16 16)) (picks 32 16)) (picks 48 8)) (picks 56 2)
    ≡ picks 0 10 ++ picks 16 10 ++ picks 32 10 ++ picks 48 10)
stored-tens parts output room =
    let picks = λ (start count : ℕ). pick_l 0 (parts ++ parts) (range_with_len start count) in
    let first = put_chunk 0 output (picks 0 16) in
    let second = put_chunk 10 first (picks 16 16) in
    let third = put_chunk 20 second (picks 32 16) in
    let fourth = put_chunk 30 third (picks 48 8) in
    let last = put_chunk 38 fourth (picks 56 2) in
    let in_first : length first ≡ 40 = length-put_chunk 0 output (picks 0 16) ∙ room in
    let in_second : length second ≡ 40 = length-put_chunk 10 first (picks 16 16) ∙ in_first in
    let in_third : length third ≡ 40 = length-put_chunk 20 second (picks 32 16) ∙ in_second in
    let in_fourth : length fourth ≡ 40 = length-put_chunk 30 third (picks 48 8) ∙ in_third in
    let in_last : length last ≡ 40 = length-put_chunk 38 fourth (picks 56 2) ∙ in_fourth in
    let two = picks 0 10 ++ picks 16 16 in
    let three = picks 0 10 ++ picks 16 10 ++ picks 32 16 in
    let four = picks 0 10 ++ picks 16 10 ++ picks 32 10 ++ picks 48 8 in
    sym (take_all 40 last (omega (arith, in_last)))
    ∙ stored-more 38 fourth four (picks 56 2) (omega arith)
    (stored-more 30 third three (picks 48 8) (omega arith)
    (stored-more 20 second two (picks 32 16) (omega arith)
    (stored-more 10 first (picks 0 16) (picks 16 16) (omega arith)
    (take_more_put_chunk 0 output (picks 0 16) 16 refl (omega (arith, room)))
    (omega (arith, in_first))) (omega (arith, in_second))) (omega (arith, in_third)))
    (omega (arith, in_fourth))

-- the bytes of words
abbrev pub bytes_of_words : BitOrder → ℕ → List ℕ → List ℕ
bytes_of_words order count words =
    flat_map (λ word. map (digit order 8 count word) (range_with_len 0 count)) words

-- the positions of the bytes of `count` words in lanes
abbrev places : BitOrder → ℕ → ℕ → ℕ → List ℕ
places MostSignificantFirst size lane count =
    map (λ k. k / size * lane + (size - 1 - k % size)) (range_with_len 0 (count * size))
places LeastSignificantFirst size lane count =
    map (λ k. k / size * lane + k % size) (range_with_len 0 (count * size))

module _ (order : BitOrder) (size lane front count : ℕ) where
  -- they are selected in two steps
  abbrev picked-words : List ℕ → List ℕ
  picked-words =
      picked (take front (places order size lane count)) (drop front (places order size lane count))

  abbrev lane_bytes : ℕ → List ℕ
  lane_bytes word = digits_of LeastSignificantFirst 8 lane word

  abbrev Picks : List ℕ → Type 0
  Picks words = picked-words (flat_map lane_bytes words) ≡ bytes_of_words order size words

  words-picked : (q few : ℕ) → q ≡ 256 ^ lane → few ≤ 256 ^ lane
      → ((word : ℕ) → digits_l 256 lane word ≡ lane_bytes word)
      → ((word : ℕ) → length (lane_bytes word) ≡ lane)
      → ((words : List ℕ) → length words ≡ count → Picks words)
      → (words : List ℕ) → length words ≡ count → AllByRecursion (λ word. word < few) words
      → picked-words (digits_l 256 (lane * count) (number_l q words))
      ≡ bytes_of_words order size words
  words-picked q few e most same each step words long fit =
      let own : map (λ word. number_l 256 (lane_bytes word)) words ≡ words =
      map-same (λ word. word < few) (λ word. number_l 256 (lane_bytes word)) (λ word. word)
      (λ word h. ap (number_l 256) (sym (same word))
      ∙ number-of-digits 256 lane word (omega arith) (omega (arith, h, most))) words fit
      ∙ map-id words in
      ap (λ l. picked-words (digits_l 256 (lane * count) (number_l q l))) (sym own)
      ∙ ap picked-words (bytes-of-lanes lane q (lane * count) e lane_bytes words
      (ap (λ n. lane * n) (sym long)) each
      (λ word. digits_of-below LeastSignificantFirst 8 lane 256 word (omega arith)))
      ∙ step words long

pub four-bytes : (word : ℕ) → digits_l 256 4 word ≡ digits_of LeastSignificantFirst 8 4 word
four-bytes word = search arith depth 6

pub eight-bytes : (word : ℕ) → digits_l 256 8 word ≡ digits_of LeastSignificantFirst 8 8 word
eight-bytes word = search arith depth 10

pub threes-picked : (order : BitOrder) (words : List ℕ) → length words ≡ 8
    → AllByRecursion (λ word. word < 2 ^ 32) words
    → picked-words order 3 4 16 8 (digits_l 256 32 (number_l 4294967296 words))
    ≡ bytes_of_words order 3 words
threes-picked MostSignificantFirst =
    words-picked MostSignificantFirst 3 4 16 8 4294967296 (2 ^ 32) refl (omega arith)
    four-bytes (λ word. refl)
    (by_eight (Picks MostSignificantFirst 3 4 16 8) (λ a b c d e f g h. refl))
threes-picked LeastSignificantFirst =
    words-picked LeastSignificantFirst 3 4 16 8 4294967296 (2 ^ 32) refl (omega arith)
    four-bytes (λ word. refl)
    (by_eight (Picks LeastSignificantFirst 3 4 16 8) (λ a b c d e f g h. refl))

pub fives-picked : (order : BitOrder) (words : List ℕ) → length words ≡ 8
    → AllByRecursion (λ word. word < 2 ^ 64) words
    → picked-words order 5 8 32 8 (digits_l 256 64 (number_l 18446744073709551616 words))
    ≡ bytes_of_words order 5 words
fives-picked MostSignificantFirst =
    words-picked MostSignificantFirst 5 8 32 8 18446744073709551616 (2 ^ 64) refl (omega arith)
    eight-bytes (λ word. refl)
    (by_eight (Picks MostSignificantFirst 5 8 32 8) (λ a b c d e f g h. refl))
fives-picked LeastSignificantFirst =
    words-picked LeastSignificantFirst 5 8 32 8 18446744073709551616 (2 ^ 64) refl (omega arith)
    eight-bytes (λ word. refl)
    (by_eight (Picks LeastSignificantFirst 5 8 32 8) (λ a b c d e f g h. refl))

-- words of one byte are their bytes
one-byte : (order : BitOrder) (w : ℕ) → w < 256
    → w ∷ [] ≡ map (digit order 8 1 w) (range_with_len 0 1)
one-byte MostSignificantFirst w h =
    let is : w ≡ w / 1 % 256 = omega (arith, h) in ap (λ d. d ∷ []) is
one-byte LeastSignificantFirst w h =
    let is : w ≡ w / 1 % 256 = omega (arith, h) in ap (λ d. d ∷ []) is

one-bytes : (order : BitOrder) (words : List ℕ) → AllByRecursion (λ word. word < 256) words
    → words ≡ bytes_of_words order 1 words
one-bytes order [] h = refl
one-bytes order (w ∷ words) h = λ i. one-byte order w h.0 i ++ one-bytes order words h.1 i

stored-ones : (order : BitOrder) (words output : List ℕ) → length output ≡ length words
    → AllByRecursion (λ word. word < 256) words
    → put_chunk 0 output (map (λ x. x) words) ≡ bytes_of_words order 1 words
stored-ones order words output exact h =
    ap (put_chunk 0 output) (map-id words)
    ∙ put_chunk_whole output words exact
    ∙ one-bytes order words h

-- the lowest bits of words
low-below : (few : ℕ) → 0 < few → (words : List ℕ)
    → AllByRecursion (λ word. word < few) (map (λ word. word % few) words)
low-below few some [] = tt
low-below few some (word ∷ words) = (mod-lt word some, low-below few some words)

-- fit narrower lanes
pub low-fits : (w : Width) (few : ℕ) → 0 < few → few ≤ 2 ^ bits w → (words : List ℕ)
    {low : List ℕ} → low ≡ map (λ word. word % few) words → Each1 (Fits w) low
low-fits w few some most words {low} is =
    narrow-enough w few most low
    (subst (AllByRecursion (λ word. word < few)) (sym is) (low-below few some words))

-- and have their lowest bytes
low-bytes : (order : BitOrder) (count few : ℕ)
    → ((word : ℕ) → map (digit order 8 count (word % few)) (range_with_len 0 count)
    ≡ map (digit order 8 count word) (range_with_len 0 count))
    → (words : List ℕ)
    → bytes_of_words order count (map (λ word. word % few) words) ≡ bytes_of_words order count words
low-bytes order count few same [] = refl
low-bytes order count few same (word ∷ words) =
    λ i. same word i ++ low-bytes order count few same words i

one-low : (order : BitOrder) (word : ℕ)
    → map (digit order 8 1 (word % 256)) (range_with_len 0 1)
    ≡ map (digit order 8 1 word) (range_with_len 0 1)
one-low MostSignificantFirst word =
    let is : word % 256 / 1 % 256 ≡ word / 1 % 256 = omega arith in ap (λ d. d ∷ []) is
one-low LeastSignificantFirst word =
    let is : word % 256 / 1 % 256 ≡ word / 1 % 256 = omega arith in ap (λ d. d ∷ []) is

three-low : (order : BitOrder) (word : ℕ)
    → map (digit order 8 3 (word % 2 ^ 32)) (range_with_len 0 3)
    ≡ map (digit order 8 3 word) (range_with_len 0 3)
three-low order word = by_order order where
  first : word % 4294967296 / 1 % 256 ≡ word / 1 % 256
  first = omega arith

  second : word % 4294967296 / 256 % 256 ≡ word / 256 % 256
  second = omega arith

  third : word % 4294967296 / 65536 % 256 ≡ word / 65536 % 256
  third = omega arith

  by_order : (one : BitOrder) → map (digit one 8 3 (word % 2 ^ 32)) (range_with_len 0 3)
      ≡ map (digit one 8 3 word) (range_with_len 0 3)
  by_order MostSignificantFirst = λ i. third i ∷ second i ∷ first i ∷ []
  by_order LeastSignificantFirst = λ i. first i ∷ second i ∷ third i ∷ []

low-threes : (order : BitOrder) (words : List ℕ)
    → bytes_of_words order 3 (map (λ word. word % 2 ^ 32) words) ≡ bytes_of_words order 3 words
low-threes order words = low-bytes order 3 (2 ^ 32) (three-low order) words

-- three lowest bytes, picked from the lowest 32 bits
pub threes-of-low : (order : BitOrder) {count : ℕ} {picks : List ℕ → List ℕ}
    → ((low : List ℕ) → length low ≡ count → AllByRecursion (λ word. word < 2 ^ 32) low
    → picks low ≡ bytes_of_words order 3 low)
    → (words low : List ℕ) → length words ≡ count → low ≡ map (λ word. word % 2 ^ 32) words
    → picks low ≡ bytes_of_words order 3 words
threes-of-low order {count} {picks} picked_are words low long is =
    ap picks is
    ∙ picked_are (map (λ word. word % 2 ^ 32) words)
    (length-map words (λ word. word % 2 ^ 32) ∙ long) (low-below (2 ^ 32) (omega arith) words)
    ∙ low-threes order words

-- one lowest byte, stored as it is
pub stored-low : (order : BitOrder) (words low output : List ℕ) {bytes : ℕ} → bytes ≡ 1
    → low ≡ map (λ word. word % 256) words → length output ≡ length words
    → put_chunk 0 output (map (λ x. x) low) ≡ bytes_of_words order bytes words
stored-low order words low output {bytes} one is exact =
    let lowest = map (λ word. word % 256) words in
    ap (λ (l : List ℕ). put_chunk 0 output (map (λ x. x) l)) is
    ∙ stored-ones order lowest output (exact ∙ sym (length-map words (λ word. word % 256)))
    (low-below 256 (omega arith) words)
    ∙ low-bytes order 1 256 (one-low order) words
    ∙ ap (λ n. bytes_of_words order n words) (sym one)
