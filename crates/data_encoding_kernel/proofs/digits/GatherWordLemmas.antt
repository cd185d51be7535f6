-- The words of groups of values, from lanes with the words of half groups as halves.
use Rattle.std.proofs.Common.{◌≡◌, ℕ, zero, suc, ◌+◌, ◌-◌, ◌*◌, ◌/◌, ◌%◌, ◌^◌, ◌<◌, ◌≤◌, List, [], ◌∷◌, ◌++◌, length, map, take, drop, replicate, reverse, refl, sym, ap, ◌∙◌, subst, arith, length-append, length-take-le}
use Rattle.std.proofs.lemmas.List.{append-nil, drop-drop, length-drop, length-reverse, reverse-append}
use Rattle.std.proofs.lemmas.List.Concat.{flat_map-append}
use Rattle.std.proofs.lemmas.Nat.{div-add-mod', div-mul-add, mod-mul-add}
use Rattle.std.proofs.lemmas.Simd.{map-map}
use Rattle.std.proofs.Math.Nat.{mul_comm, mul-zero, mul-one, mul-le-mul_left, mod-eq_of_lt, div-lt_iff_lt-mul, pow-zero, pow-succ'}
use Rattle.std.proofs.Math.Pow.{pow_mono}
use Rattle.std.proofs.Math.Seq.{take-add}
use Rattle.std.specs.Prelude.{flat_map}
use Rattle.std.specs.List.{AllByRecursion}
use Rattle.std.specs.Simd.{first_chunks}
use Rattle.std.specs.Simd.Lanes.{number_l, digits_l}
use Rattle.data_encoding_meaning.specs.declared.encoding.BitOrder.{BitOrder}
use Rattle.data_encoding_meaning.specs.declared.encoding.BitOrder.TheVariants.{MostSignificantFirst, LeastSignificantFirst}
use Rattle.data_encoding_meaning.specs.text.Bits.{bits_of, number_of, number_of_low_bits}
use Rattle.data_encoding_kernel.specs.Values.{joined}
use Rattle.data_encoding_kernel.specs.Words.{weight, word_of}
use Rattle.data_encoding_meaning.proofs.digits.BitLemmas.{length-bits_of, length-pieces, number-append}
use Rattle.data_encoding_kernel.proofs.digits.GroupWordLemmas.{word_of-below}
use Rattle.data_encoding_kernel.proofs.digits.WordLemmas.{word-one}

-- a number has no more digits than it was made of
number-below : (p : ℕ) (xs : List ℕ) → AllByRecursion (λ x. x < p) xs
    → number_l p xs < p ^ length xs
number-below p [] h = omega (arith, pow-zero p)
number-below p (x ∷ xs) h =
    let rest = number_l p xs in
    let up : p * (rest + 1) ≤ p * p ^ length xs =
    mul-le-mul_left p (omega (arith, number-below p xs h.1)) in
    omega (arith, up, pow-succ' p (length xs), h.0)

-- a number of its own digits
pub number-of-digits : (p n x : ℕ) → 0 < p → x < p ^ n → number_l p (digits_l p n x) ≡ x
number-of-digits p zero x pos h = omega (arith, h, pow-zero p)
number-of-digits p (suc n) x pos h =
    let few : x / p < p ^ n =
    (div-lt_iff_lt-mul {k = p} {x = x} {y = p ^ n} pos).1
    (subst (λ m. x < m) (pow-succ' p n ∙ mul_comm p (p ^ n)) h) in
    ap (λ m. x % p + p * m) (number-of-digits p n (x / p) pos few)
    ∙ omega (arith, div-add-mod' x p, mul_comm p (x / p))

-- lanes as bytes, and these as lanes of twice the size
relaned : (p q n m : ℕ) (xs : List ℕ) → AllByRecursion (λ x. x < p) xs
    → p ^ length xs ≡ 256 ^ m
    → digits_l q n (number_l 256 (digits_l 256 m (number_l p xs))) ≡ digits_l q n (number_l p xs)
relaned p q n m xs h same =
    ap (digits_l q n) (number-of-digits 256 m (number_l p xs) (omega arith)
    (subst (λ k. number_l p xs < k) same (number-below p xs h)))

-- lanes of twice the size are pairs of the smaller ones
pub pairs-of : (p n : ℕ) (xs : List ℕ) → AllByRecursion (λ x. x < p) xs → length xs ≡ n + n
    → digits_l (p * p) n (number_l p xs) ≡ map (number_l p) (first_chunks 2 n xs)
pairs-of p zero xs h e = refl
pairs-of p (suc n) [] h e = absurd (omega (arith, e))
pairs-of p (suc n) (a ∷ []) h e = absurd (omega (arith, e))
pairs-of p (suc n) (a ∷ b ∷ xs) h e =
    let rest = number_l p xs in
    let pair = a + p * (b + p * 0) in
    let whole : a + p * (b + p * rest) ≡ rest * (p * p) + pair = omega arith in
    let up : p * (b + 1) ≤ p * p = mul-le-mul_left p (omega (arith, h.1.0)) in
    let below : pair < p * p = omega (arith, up, h.0) in
    let low : (a + p * (b + p * rest)) % (p * p) ≡ pair =
    ap (λ m. m % (p * p)) whole ∙ mod-mul-add rest (p * p) pair below in
    let high : (a + p * (b + p * rest)) / (p * p) ≡ rest =
    ap (λ m. m / (p * p)) whole ∙ div-mul-add rest (p * p) pair below in
    λ i. low i ∷ (ap (digits_l (p * p) n) high ∙ pairs-of p n xs h.1.1 (omega (arith, e))) i

-- two halves of n bits
weight-low : (n : ℕ) → 2 ^ (n * 0) ≡ 1
weight-low n = ap (λ m. 2 ^ m) (mul-zero n)

number_of-halves : (order : BitOrder) (n : ℕ) (front back : List ℕ) → length front ≡ n
    → length back ≡ n → number_of order (front ++ back)
    ≡ number_of order front * 2 ^ weight order n 2 0 + number_of order back * 2 ^ weight order n 2 1
number_of-halves LeastSignificantFirst n front back f b =
    let low = number_of_low_bits front in
    let high = number_of_low_bits back in
    number-append front back
    ∙ ap (λ m. low + 2 ^ m * high) (f ∙ sym (mul-one n))
    ∙ omega (arith, ap (λ m. low * m) (weight-low n))
number_of-halves MostSignificantFirst n front back f b =
    let low = number_of_low_bits (reverse back) in
    let high = number_of_low_bits (reverse front) in
    ap number_of_low_bits (reverse-append front back)
    ∙ number-append (reverse back) (reverse front)
    ∙ ap (λ m. low + 2 ^ m * high) (length-reverse back ∙ b ∙ sym (mul-one n))
    ∙ omega (arith, ap (λ m. low * m) (weight-low n))

module _ (order : BitOrder) (size : ℕ) where
  abbrev bits : List ℕ → List ℕ
  bits digits = flat_map (bits_of order size) digits

  abbrev word : ℕ → List ℕ → ℕ
  word count digits = word_of order size count digits

  length-bits : (digits : List ℕ) → length (bits digits) ≡ size * length digits
  length-bits digits = length-pieces size (bits_of order size) digits (length-bits_of order size)

  word-full : (count : ℕ) (digits : List ℕ) → length digits ≡ count
      → word count digits ≡ number_of order (bits digits)
  word-full count digits e =
      let none : size * count - length (bits digits) ≡ 0 =
      omega (arith, length-bits digits, ap (λ n. size * n) e) in
      ap (λ n. number_of order (bits digits ++ replicate n 0)) none
      ∙ ap (number_of order) (append-nil (bits digits))

  word-below : (count : ℕ) (digits : List ℕ) → length digits ≡ count
      → word count digits < 2 ^ (size * count)
  word-below count digits e = word_of-below order size count digits (omega (arith, e))

  word-halves : (count : ℕ) (front back : List ℕ) → length front ≡ count → length back ≡ count
      → word (count + count) (front ++ back)
      ≡ word count front * 2 ^ weight order (size * count) 2 0
      + word count back * 2 ^ weight order (size * count) 2 1
  word-halves count front back f b =
      let n = size * count in
      word-full (count + count) (front ++ back)
      (length-append front back ∙ (λ i. f i + b i))
      ∙ ap (number_of order) (flat_map-append (bits_of order size) front back)
      ∙ number_of-halves order n (bits front) (bits back)
      (length-bits front ∙ ap (λ m. size * m) f) (length-bits back ∙ ap (λ m. size * m) b)
      ∙ sym (λ i. word-full count front f i * 2 ^ weight order n 2 0
      + word-full count back b i * 2 ^ weight order n 2 1)

  pub words-of-one : (n : ℕ) (values : List ℕ) → length values ≡ n
      → AllByRecursion (λ value. value < 2 ^ size) values
      → values ≡ map (word 1) (first_chunks 1 n values)
  words-of-one zero [] e h = refl
  words-of-one zero (value ∷ values) e h = absurd (omega (arith, e))
  words-of-one (suc n) [] e h = absurd (omega (arith, e))
  words-of-one (suc n) (value ∷ values) e h =
      λ i. sym (word-one order size value h.0) i ∷ words-of-one n values (omega (arith, e)) h.1 i

  pub words-fit : (half count : ℕ) → size * count ≤ half → (n : ℕ) (values : List ℕ)
      → length values ≡ count * n
      → AllByRecursion (λ word. word < 2 ^ half) (map (word count) (first_chunks count n values))
  words-fit half count few zero values e = tt
  words-fit half count few (suc n) values e =
      let first = word-below count (take count values)
      (length-take-le count values (omega (arith, e))) in
      let most : 2 ^ (size * count) ≤ 2 ^ half = pow_mono few in (
        omega (arith, first, most),
        words-fit half count few n (drop count values)
            (length-drop count values ∙ omega (arith, e)),
      )

  pub length-words : (count n : ℕ) (values : List ℕ)
      → length (map (word count) (first_chunks count n values)) ≡ n
  length-words count zero values = refl
  length-words count (suc n) values = ap suc (length-words count n (drop count values))

  -- words in lanes, as bytes and as lanes of twice the size
  pub relaned-words : (half count : ℕ) → size * count ≤ half → (q n m bytes : ℕ)
      (values : List ℕ) → length values ≡ count * m → (2 ^ half) ^ m ≡ 256 ^ bytes
      → digits_l q n (number_l 256 (digits_l 256 bytes
      (number_l (2 ^ half) (map (word count) (first_chunks count m values)))))
      ≡ digits_l q n (number_l (2 ^ half) (map (word count) (first_chunks count m values)))
  relaned-words half count few q n m bytes values e same =
      let words = map (word count) (first_chunks count m values) in
      relaned (2 ^ half) q n bytes words (words-fit half count few m values e)
      (ap (λ k. (2 ^ half) ^ k) (length-words count m values) ∙ same)

  module _ (half count part : ℕ) (part_is : part ≡ size * count) (few : part ≤ half) where
    -- a lane of two halves
    joined-word : (front back : List ℕ) → length front ≡ count → length back ≡ count
        → joined order half part (number_l (2 ^ half) (word count front ∷ word count back ∷ []))
        ≡ word (count + count) (front ++ back)
    joined-word front back f b =
        let a = word count front in
        let b_ = word count back in
        let h = 2 ^ half in
        let most : 2 ^ (size * count) ≤ h = pow_mono (omega (arith, part_is, few)) in
        let a_below : a < h = omega (arith, word-below count front f, most) in
        let lane : a + h * (b_ + h * 0) ≡ b_ * h + a = omega arith in
        let low : (a + h * (b_ + h * 0)) % h ≡ a =
        ap (λ n. n % h) lane ∙ mod-mul-add b_ h a a_below in
        let high : (a + h * (b_ + h * 0)) / h ≡ b_ =
        ap (λ n. n / h) lane ∙ div-mul-add b_ h a a_below in
        let all = word (count + count) (front ++ back) in
        let long : length (front ++ back) ≡ count + count =
        length-append front back ∙ (λ i. f i + b i) in
        let most_all : 2 ^ (size * (count + count)) ≤ 2 ^ (half + half) =
        pow_mono (omega (arith, part_is, few)) in
        let fits : all < 2 ^ (half + half) =
        omega (arith, word-below (count + count) (front ++ back) long, most_all) in
        (λ i. (low i * 2 ^ weight order (part_is i) 2 0 + high i * 2 ^ weight order (part_is i) 2 1)
        % 2 ^ (half + half))
        ∙ ap (λ n. n % 2 ^ (half + half)) (sym (word-halves count front back f b))
        ∙ mod-eq_of_lt fits

    words-joined : (n m : ℕ) (values : List ℕ) → m ≡ n + n
        → length values ≡ (count + count) * n
        → map (λ pair. joined order half part (number_l (2 ^ half) pair))
        (first_chunks 2 n (map (word count) (first_chunks count m values)))
        ≡ map (word (count + count)) (first_chunks (count + count) n values)
    words-joined zero m values e long = refl
    words-joined (suc n) zero values e long = absurd (omega (arith, e))
    words-joined (suc n) (suc zero) values e long = absurd (omega (arith, e))
    words-joined (suc n) (suc (suc m)) values e long =
        let both = count + count in
        let front = take count values in
        let back = take count (drop count values) in
        let f : length front ≡ count = length-take-le count values (omega (arith, long)) in
        let b : length back ≡ count =
        length-take-le count (drop count values)
        (omega (arith, length-drop count values, long)) in
        let rest = words-joined n m (drop count (drop count values)) (omega (arith, e))
        (length-drop count (drop count values)
        ∙ omega (arith, length-drop count values, long)) in
        λ i. (joined-word front back f b
        ∙ ap (word both) (sym (take-add count count values))) i
        ∷ (rest ∙ ap (λ l. map (word both) (first_chunks both n l)) (drop-drop count count values))
        i

    -- a step by halves: from the words of `count` values to the words of twice as many
    pub words-step : (n : ℕ) (values : List ℕ) → length values ≡ (count + count) * n
        → map (joined order half part) (digits_l (2 ^ half * 2 ^ half) n
        (number_l (2 ^ half) (map (word count) (first_chunks count (n + n) values))))
        ≡ map (word (count + count)) (first_chunks (count + count) n values)
    words-step n values long =
        let words = map (word count) (first_chunks count (n + n) values) in
        let part_few : size * count ≤ half = omega (arith, part_is, few) in
        let same : length values ≡ count * (n + n) =
        long ∙ omega arith in
        ap (map (joined order half part)) (pairs-of (2 ^ half) n words
        (words-fit half count part_few (n + n) values same) (length-words count (n + n) values))
        ∙ map-map (joined order half part) (number_l (2 ^ half)) (first_chunks 2 n words)
        ∙ words-joined n (n + n) values refl long
