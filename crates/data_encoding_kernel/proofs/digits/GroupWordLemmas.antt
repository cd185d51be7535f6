-- The words of groups of bytes, in lanes.
use Rattle.std.proofs.Common.{◌≡◌, ℕ, ◌+◌, ◌-◌, ◌*◌, ◌^◌, ◌<◌, ◌≤◌, List, ◌++◌, length, map, take, drop, get_or, replicate, sym, ap, ◌∙◌, subst, arith, length-append, length-take-le}
use Rattle.std.proofs.lemmas.List.{drop_more, drop-drop, length-drop, length-replicate, length-take, take_all, drop-take, take-take}
use Rattle.std.proofs.lemmas.List.FromFn.{length-map-range_with_len}
use Rattle.std.proofs.lemmas.Nat.{mul-le}
use Rattle.std.proofs.Math.Nat.{mul-add}
use Rattle.std.proofs.lemmas.Simd.{pick_l-range_with_len}
use Rattle.std.specs.Prelude.{flat_map}
use Rattle.std.specs.List.{AllByRecursion, range_with_len}
use Rattle.std.specs.Simd.Lanes.{number_l, digits_l, pick_l}
use Rattle.data_encoding_meaning.specs.declared.encoding.BitOrder.{BitOrder}
use Rattle.data_encoding_meaning.specs.text.Bits.{bits_of}
use Rattle.data_encoding_kernel.specs.Lanes.{group_word, group_words}
use Rattle.data_encoding_kernel.specs.Words.{word_of, zeros_to}
use Rattle.data_encoding_meaning.proofs.digits.BitLemmas.{AreBits, AreBits-append, AreBits-flat_map, AreBits-bits_of, number_of-below, length-pieces, length-bits_of, AreBits-zeros}
use Rattle.data_encoding_kernel.proofs.digits.LaneLemmas.{number-of-wide, number-padded, digits-of-number, all_mapped}
use Rattle.data_encoding_kernel.proofs.digits.WordLemmas.{lowest_first, word-number, map-range-same, word-one}

-- a word has no more bits than its digits
pub word_of-below : (order : BitOrder) (size count : ℕ) (digits : List ℕ) → length digits ≤ count
    → word_of order size count digits < 2 ^ (size * count)
word_of-below order size count digits h =
    let bits = flat_map (bits_of order size) digits in
    let extra = size * count - length bits in
    let len : length bits ≡ size * length digits =
    length-pieces size (bits_of order size) digits (length-bits_of order size) in
    let most : size * length digits ≤ size * count =
    mul-le size (length digits) size count (omega arith) h in
    let all : length (zeros_to (size * count) bits) ≡ size * count =
    simp (length-append, length-replicate) (omega (arith, len, most)) in
    let are : AreBits bits =
    AreBits-flat_map (bits_of order size) digits (AreBits-bits_of order size) in
    subst (λ n. word_of order size count digits < 2 ^ n) all
    (number_of-below order (zeros_to (size * count) bits)
    (AreBits-append bits (replicate extra 0) are (AreBits-zeros extra)))

pub word-below : (order : BitOrder) (size : ℕ) (input : List ℕ) (group : ℕ)
    → group_word order size input group < 2 ^ (8 * size)
word-below order size input group =
    word_of-below order 8 size (take size (drop (size * group) input))
    (omega (arith, length-take size (drop (size * group) input)))

pub words-below : (order : BitOrder) (size count : ℕ) (input : List ℕ)
    → AllByRecursion (λ word. word < 2 ^ (8 * size)) (group_words order size count input)
words-below order size count input =
    all_mapped (λ word. word < 2 ^ (8 * size)) (group_word order size input)
    (range_with_len 0 count) (word-below order size input)

-- a group of the rest after some bytes is a later group
pub word-later : (order : BitOrder) (size start : ℕ) (input : List ℕ) (group later : ℕ)
    → start + size * group ≡ size * later
    → group_word order size (take (length input - start) (drop start input)) group
    ≡ group_word order size input later
word-later order size start input group later e =
    let whole : take (length input - start) (drop start input) ≡ drop start input =
    take_all (length input - start) (drop start input) (omega (arith, length-drop start input)) in
    ap (λ l. word_of order 8 size (take size (drop (size * group) l))) whole
    ∙ ap (λ l. word_of order 8 size (take size l))
    (drop-drop (size * group) start input ∙ ap (λ n. drop n input) e)

module _ (input : List ℕ) (small : (k : ℕ) → get_or input k 0 < 256) where
  word-of-byte : (order : BitOrder) (group : ℕ) → group < length input
      → get_or input group 0 ≡ word_of order 8 1 (take 1 (drop group input))
  word-of-byte order group h =
      sym (word-one order 8 (get_or input group 0) (small group))
      ∙ ap (λ l. word_of order 8 1 (take 1 l)) (sym (drop_more input group 0 h))

  -- the first eight bytes are the words of their groups
  pub bytes-are-words : (order : BitOrder) → 8 ≤ length input
      → take 8 (drop 0 input) ≡ group_words order 1 8 input
  bytes-are-words order h =
      sym (get-all 8 input h)
      ∙ map-range-same (λ k. get_or input k 0) (group_word order 1 input) 8
      (λ k below. word-of-byte order k (omega (arith, below, h))
      ∙ ap (λ n. word_of order 8 1 (take 1 (drop n input))) (omega arith))
    where
      get-all : (n : ℕ) (xs : List ℕ) → n ≤ length xs
          → map (λ k. get_or xs k 0) (range_with_len 0 n) ≡ take n xs
      get-all n xs h = pick_l-range_with_len 0 xs 0 n (omega (arith, h))

-- lanes of k bytes are the words of their bytes
words-of-bytes : (order : BitOrder) (size k count q : ℕ) (input : List ℕ) → q ≡ 256 ^ k
    → 2 ^ (8 * size) ≤ q → (lane : ℕ → List ℕ) → ((group : ℕ) → length (lane group) ≡ k)
    → ((group : ℕ) → group < count → number_l 256 (lane group) ≡ group_word order size input group)
    → digits_l q count (number_l 256 (flat_map lane (range_with_len 0 count)))
    ≡ group_words order size count input
words-of-bytes order size k count q input e wide lane long is =
    let words = group_words order size count input in
    let len : length words ≡ count =
    length-map-range_with_len (group_word order size input) 0 count in
    let below = all_mapped (λ word. word < q) (group_word order size input) (range_with_len 0 count)
    (λ group. omega (arith, wide, word-below order size input group)) in
    ap (digits_l q count) (sym (number-of-wide 256 k q e lane (range_with_len 0 count) long))
    ∙ ap (λ l. digits_l q count (number_l q l))
    (map-range-same (λ group. number_l 256 (lane group)) (group_word order size input) count is)
    ∙ ap (λ n. digits_l q n (number_l q words)) (sym len)
    ∙ digits-of-number q words below

-- the bytes of the lane of a group, the lowest first, from the bytes `loaded`
abbrev lane : BitOrder → ℕ → ℕ → List ℕ → ℕ → List ℕ
lane order size more loaded group =
    lowest_first order (pick_l 0 loaded (range_with_len (size * group) size)) ++ replicate more 0

module _ (order : BitOrder) (size more : ℕ) (input : List ℕ) (long : 16 ≤ length input)
    (small : (k : ℕ) → get_or input k 0 < 256) where
  pub lane-word : (group : ℕ) → size * group + size ≤ 16
      → number_l 256 (lane order size more (take 16 input) group)
      ≡ group_word order size input group
  lane-word group h =
      let i = size * group in
      let bytes = take size (drop i input) in
      let rest : i + (16 - i) ≡ 16 = omega (arith, h) in
      let loaded : pick_l 0 (take 16 input) (range_with_len i size) ≡ bytes =
      pick_l-range_with_len 0 (take 16 input) i size
      (omega (arith, h, length-take-le 16 input long))
      ∙ ap (λ n. take size (drop i (take n input))) (sym rest)
      ∙ ap (take size) (drop-take i (16 - i) input)
      ∙ take-take size (16 - i) (drop i input) (omega (arith, h)) in
      let below : AllByRecursion (λ byte. byte < 256) bytes =
      rw (pick_l-range_with_len 0 input i size (omega (arith, h, long))) at
      (all_mapped (λ byte. byte < 256) (λ k. get_or input k 0) (range_with_len i size) small) in
      number-padded 256 (lowest_first order (pick_l 0 (take 16 input) (range_with_len i size))) more
      ∙ ap (λ l. number_l 256 (lowest_first order l)) loaded
      ∙ sym (word-number order 8 bytes below)
      ∙ ap (λ n. word_of order 8 n bytes)
      (length-take-le size (drop i input) (omega (arith, h, long, length-drop i input)))

  pub lanes-are-words : (count q : ℕ) → q ≡ 256 ^ (size + more) → 2 ^ (8 * size) ≤ q
      → size * count ≤ 16
      → ((group : ℕ) → length (lane order size more (take 16 input) group) ≡ size + more)
      → digits_l q count
      (number_l 256 (flat_map (lane order size more (take 16 input)) (range_with_len 0 count)))
      ≡ group_words order size count input
  lanes-are-words count q e wide room each =
      words-of-bytes order size (size + more) count q input e wide
      (lane order size more (take 16 input)) each
      (λ group h. lane-word group (omega (
        arith,
        room,
        mul-add size group 1,
        mul-le size (group + 1) size count (omega arith) (omega (arith, h)),
      )))
