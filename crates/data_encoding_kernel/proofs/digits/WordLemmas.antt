-- Words of digits: a digit more, and a digit of a word, in either order.
use Rattle.std.proofs.Common.{◌≡◌, ℕ, zero, suc, ◌+◌, ◌-◌, ◌*◌, ◌/◌, ◌%◌, ◌^◌, ◌<◌, ◌≤◌, List, [], ◌∷◌, ◌++◌, length, map, take, drop, replicate, reverse, refl, sym, ap, ◌∙◌, subst, arith, length-append, append_assoc, take-append-drop, length-take-le}
use Rattle.std.proofs.lemmas.List.{length-reverse, reverse-reverse, reverse-append, append-nil, length-replicate, length-drop, drop-drop}
use Rattle.std.proofs.lemmas.List.Concat.{flat_map-append}
use Rattle.std.proofs.lemmas.Nat.{div-mul-add, mod-mul-add, pow-add, shl_whole, mul-le}
use Rattle.std.proofs.Math.Pow.{pow_mono}
use Rattle.std.proofs.Math.Nat.{mul_comm, mul-add, mul-zero, zero-add}
use Rattle.std.specs.Prelude.{flat_map}
use Rattle.std.specs.List.{AllByRecursion, range_with_len}
use Rattle.std.specs.Simd.Lanes.{number_l}
use Rattle.std.specs.Simd.{first_chunks}
use Rattle.data_encoding_meaning.specs.declared.encoding.BitOrder.{BitOrder}
use Rattle.data_encoding_meaning.specs.declared.encoding.BitOrder.TheVariants.{MostSignificantFirst, LeastSignificantFirst}
use Rattle.data_encoding_meaning.specs.text.Bits.{low_bits, number_of_low_bits, bits_of, number_of}
use Rattle.data_encoding_kernel.specs.Words.{weight, digit, zeros_to, word_of}
use Rattle.data_encoding_meaning.proofs.lists.EachLemmas.{all_reversed, map-twice}
use Rattle.data_encoding_meaning.proofs.digits.BitLemmas.{AreBits, AreBits-append, AreBits-left, AreBits-right, AreBits-reverse, length-bits_of, length-pieces, number-low_bits, number-below, length-low_bits, AreBits-zeros, number-append, number-zeros, reverse-zeros}

-- the bits between lower and higher ones
number-middle : (low middle high : List ℕ) → AreBits low → AreBits middle
    → number_of_low_bits (low ++ (middle ++ high)) / 2 ^ length low % 2 ^ length middle
    ≡ number_of_low_bits middle
number-middle low middle high h k =
    let L = 2 ^ length low in
    let M = 2 ^ length middle in
    let l = number_of_low_bits low in
    let m = number_of_low_bits middle in
    let n = number_of_low_bits high in
    let all : number_of_low_bits (low ++ (middle ++ high)) ≡ (n * M + m) * L + l =
    number-append low (middle ++ high)
    ∙ ap (λ x. l + L * x) (number-append middle high) ∙ omega arith in
    ap (λ x. x / L % M) all
    ∙ ap (λ x. x % M) (div-mul-add (n * M + m) L l (number-below low h))
    ∙ mod-mul-add n M m (number-below middle k)

-- the words of no digits, and of a digit more
word-least : (size count : ℕ) (digits : List ℕ)
    → word_of LeastSignificantFirst size count digits
    ≡ number_of_low_bits (flat_map (low_bits size) digits)
word-least size count digits =
    let bits = flat_map (low_bits size) digits in
    let extra = size * count - length bits in
    number-append bits (replicate extra 0)
    ∙ ap (λ n. number_of_low_bits bits + 2 ^ length bits * n) (number-zeros extra)
    ∙ omega arith

word-most : (size count : ℕ) (digits : List ℕ)
    → word_of MostSignificantFirst size count digits
    ≡ 2 ^ (size * count - size * length digits)
    * number_of_low_bits (reverse (flat_map (bits_of MostSignificantFirst size) digits))
word-most size count digits =
    let bits = flat_map (bits_of MostSignificantFirst size) digits in
    let extra = size * count - length bits in
    let len : length bits ≡ size * length digits =
    length-pieces size (bits_of MostSignificantFirst size) digits
    (length-bits_of MostSignificantFirst size) in
    ap number_of_low_bits (reverse-append bits (replicate extra 0))
    ∙ ap (λ l. number_of_low_bits (l ++ reverse bits)) (reverse-zeros extra)
    ∙ number-append (replicate extra 0) (reverse bits)
    ∙ (λ i. number-zeros extra i
    + 2 ^ length-replicate {A = ℕ} extra 0 i * number_of_low_bits (reverse bits))
    ∙ zero-add (2 ^ extra * number_of_low_bits (reverse bits))
    ∙ ap (λ n. 2 ^ (size * count - n) * number_of_low_bits (reverse bits)) len

flat-more : (f : ℕ → List ℕ) (digits : List ℕ) (d : ℕ)
    → flat_map f (digits ++ d ∷ []) ≡ flat_map f digits ++ f d
flat-more f digits d =
    flat_map-append f digits (d ∷ []) ∙ ap (λ l. flat_map f digits ++ l) (append-nil (f d))

-- a word that is whole is the number of its digits
number-pieces : (size : ℕ) (digits : List ℕ) → AllByRecursion (λ d. d < 2 ^ size) digits
    → number_of_low_bits (flat_map (low_bits size) digits) ≡ number_l (2 ^ size) digits
number-pieces size [] h = refl
number-pieces size (d ∷ digits) h =
    number-append (low_bits size d) (flat_map (low_bits size) digits)
    ∙ (λ i. number-low_bits size d h.0 i
    + 2 ^ length-low_bits size d i * number-pieces size digits h.1 i)

reverse-pieces : (size : ℕ) (digits : List ℕ)
    → reverse (flat_map (bits_of MostSignificantFirst size) digits)
    ≡ flat_map (low_bits size) (reverse digits)
reverse-pieces size [] = refl
reverse-pieces size (d ∷ digits) =
    reverse-append (reverse (low_bits size d))
    (flat_map (bits_of MostSignificantFirst size) digits)
    ∙ (λ i. reverse-pieces size digits i ++ reverse-reverse (low_bits size d) i)
    ∙ sym (ap (flat_map (low_bits size)) (reverse-append (d ∷ []) digits)
    ∙ flat-more (low_bits size) (reverse digits) d)

abbrev pub lowest_first : BitOrder → List ℕ → List ℕ
lowest_first LeastSignificantFirst digits = digits
lowest_first MostSignificantFirst digits = reverse digits

pub word-number : (order : BitOrder) (size : ℕ) (digits : List ℕ)
    → AllByRecursion (λ d. d < 2 ^ size) digits
    → word_of order size (length digits) digits ≡ number_l (2 ^ size) (lowest_first order digits)
word-number LeastSignificantFirst size digits h =
    word-least size (length digits) digits ∙ number-pieces size digits h
word-number MostSignificantFirst size digits h =
    let none : size * length digits - size * length digits ≡ 0 = omega arith in
    word-most size (length digits) digits
    ∙ (λ i. 2 ^ none i * number_of_low_bits (reverse-pieces size digits i))
    ∙ ap (λ n. 2 ^ 0 * n) (number-pieces size (reverse digits)
    (all_reversed (λ d. d < 2 ^ size) digits h))
    ∙ omega arith

-- a value is its own word
pub word-one : (order : BitOrder) (size value : ℕ) → value < 2 ^ size
    → word_of order size 1 (value ∷ []) ≡ value
word-one LeastSignificantFirst size value h =
    word-number LeastSignificantFirst size (value ∷ []) (h, tt) ∙ omega arith
word-one MostSignificantFirst size value h =
    word-number MostSignificantFirst size (value ∷ []) (h, tt) ∙ omega arith

pub word_of-nil : (order : BitOrder) (size count : ℕ) → word_of order size count [] ≡ 0
word_of-nil LeastSignificantFirst size count = word-least size count []
word_of-nil MostSignificantFirst size count =
    word-most size count [] ∙ mul-zero (2 ^ (size * count - size * 0))

word-more_least : (size count : ℕ) (digits : List ℕ) (d : ℕ) → d < 2 ^ size
    → word_of LeastSignificantFirst size count (digits ++ d ∷ [])
    ≡ word_of LeastSignificantFirst size count digits + d * 2 ^ (size * length digits)
word-more_least size count digits d h =
    let bits = flat_map (low_bits size) digits in
    let len : length bits ≡ size * length digits =
    length-pieces size (low_bits size) digits (length-low_bits size) in
    word-least size count (digits ++ d ∷ [])
    ∙ ap number_of_low_bits (flat-more (low_bits size) digits d)
    ∙ number-append bits (low_bits size d)
    ∙ (λ i. number_of_low_bits bits + 2 ^ len i * number-low_bits size d h i)
    ∙ ap (λ n. number_of_low_bits bits + n) (mul_comm (2 ^ (size * length digits)) d)
    ∙ ap (λ n. n + d * 2 ^ (size * length digits)) (sym (word-least size count digits))

bits-above : (size i r : ℕ) → size * (i + 1 + r) - size * (i + 1) ≡ size * r
bits-above size i r = omega arith

bits-from : (size i r : ℕ) → size * (i + 1 + r) - size * i ≡ size * r + size
bits-from size i r = omega arith

word-more_most : (size i r : ℕ) (digits : List ℕ) (d : ℕ) → length digits ≡ i → d < 2 ^ size
    → word_of MostSignificantFirst size (i + 1 + r) (digits ++ d ∷ [])
    ≡ word_of MostSignificantFirst size (i + 1 + r) digits + d * 2 ^ (size * r)
word-more_most size i r digits d is h =
    let bits = flat_map (bits_of MostSignificantFirst size) digits in
    let n = number_of_low_bits (reverse bits) in
    let count = i + 1 + r in
    let turned : number_of_low_bits (reverse (bits ++ reverse (low_bits size d)))
    ≡ d + 2 ^ size * n =
    ap number_of_low_bits (reverse-append bits (reverse (low_bits size d))
    ∙ ap (λ l. l ++ reverse bits) (reverse-reverse (low_bits size d)))
    ∙ number-append (low_bits size d) (reverse bits)
    ∙ (λ j. number-low_bits size d h j + 2 ^ length-low_bits size d j * n) in
    let len : length (digits ++ d ∷ []) ≡ i + 1 =
    length-append digits (d ∷ []) ∙ ap (λ k. k + 1) is in
    let after = word-most size count (digits ++ d ∷ [])
    ∙ ap (λ l. 2 ^ (size * count - size * length (digits ++ d ∷ [])) * number_of_low_bits
    (reverse l)) (flat-more (bits_of MostSignificantFirst size) digits d)
    ∙ (λ j. 2 ^ (size * count - size * len j) * turned j)
    ∙ ap (λ e. 2 ^ e * (d + 2 ^ size * n)) (bits-above size i r) in
    let before = word-most size count digits ∙ (λ j. 2 ^ (size * count - size * is j) * n)
    ∙ ap (λ e. 2 ^ e * n) (bits-from size i r) ∙ ap (λ m. m * n) (pow-add 2 (size * r) size) in
    omega (arith, after, before)

-- a digit more adds that digit times its weight
pub word_of-more : (order : BitOrder) (size count index : ℕ) (digits : List ℕ) (d : ℕ)
    → length digits ≡ index → index < count → d < 2 ^ size
    → word_of order size count (digits ++ d ∷ [])
    ≡ word_of order size count digits + d * 2 ^ weight order size count index
word_of-more LeastSignificantFirst size count index digits d is h k =
    word-more_least size count digits d k
    ∙ ap (λ n. word_of LeastSignificantFirst size count digits + d * 2 ^ (size * n)) is
word_of-more MostSignificantFirst size count index digits d is h k =
    let r = count - 1 - index in
    let whole : index + 1 + r ≡ count = omega arith in
    rw whole at (word-more_most size index r digits d is k)

-- the number of bits below those that are between a prefix and a rest
abbrev bits_below : BitOrder → List ℕ → List ℕ → ℕ
bits_below LeastSignificantFirst front rest = length front
bits_below MostSignificantFirst front rest = length rest

-- the bits between others, as a number
number-part : (order : BitOrder) (front run rest : List ℕ) → AreBits (front ++ (run ++ rest))
    → number_of order (front ++ (run ++ rest)) / 2 ^ bits_below order front rest % 2 ^ length run
    ≡ number_of order run
number-part LeastSignificantFirst front run rest h =
    number-middle front run rest (AreBits-left front (run ++ rest) h)
    (AreBits-left run rest (AreBits-right front (run ++ rest) h))
number-part MostSignificantFirst front run rest h =
    let bits = AreBits-right front (run ++ rest) h in
    let turned : reverse (front ++ (run ++ rest))
    ≡ reverse rest ++ (reverse run ++ reverse front) =
    reverse-append front (run ++ rest)
    ∙ ap (λ l. l ++ reverse front) (reverse-append run rest)
    ∙ append_assoc (reverse rest) (reverse run) (reverse front) in
    (λ i. number_of_low_bits (turned i) / 2 ^ sym (length-reverse rest) i
    % 2 ^ sym (length-reverse run) i)
    ∙ number-middle (reverse rest) (reverse run) (reverse front)
    (AreBits-reverse rest (AreBits-right run rest bits))
    (AreBits-reverse run (AreBits-left run rest bits))

weight-below : (order : BitOrder) (size count index : ℕ) (front rest : List ℕ)
    → length front ≡ size * index → length rest ≡ size * (count - 1 - index)
    → weight order size count index ≡ bits_below order front rest
weight-below LeastSignificantFirst size count index front rest f r = sym f
weight-below MostSignificantFirst size count index front rest f r = sym r

-- the bits of a digit, counted from the first
digit-number_of : (order : BitOrder) (size count index : ℕ) (bits : List ℕ) → AreBits bits
    → length bits ≡ size * count → index < count
    → digit order size count (number_of order bits) index
    ≡ number_of order (take size (drop (size * index) bits))
digit-number_of order size count index bits h e k =
    let r = count - 1 - index in
    let whole : index + 1 + r ≡ count = omega arith in
    let parts : size * count ≡ size * index + size + size * r =
    ap (λ n. size * n) (sym whole) ∙ omega arith in
    let front = take (size * index) bits in
    let others = drop (size * index) bits in
    let run = take size others in
    let rest = drop size others in
    let front_len : length front ≡ size * index =
    length-take-le (size * index) bits (omega arith) in
    let others_len : length others ≡ size + size * r =
    length-drop (size * index) bits ∙ omega arith in
    let run_len : length run ≡ size = length-take-le size others (omega arith) in
    let rest_len : length rest ≡ size * r = length-drop size others ∙ omega arith in
    let joined : front ++ (run ++ rest) ≡ bits =
    ap (λ l. front ++ l) (take-append-drop size others)
    ∙ take-append-drop (size * index) bits in
    ap (λ l. digit order size count (number_of order l) index) (sym joined)
    ∙ (λ i. number_of order (front ++ (run ++ rest))
    / 2 ^ weight-below order size count index front rest front_len rest_len i % 2 ^ sym run_len i)
    ∙ number-part order front run rest (subst AreBits (sym joined) h)

-- runs by their positions
runs_from : (size n a : ℕ) (xs : List ℕ)
    → map (λ k. take size (drop (size * k) xs)) (range_with_len a n)
    ≡ first_chunks size n (drop (size * a) xs)
runs_from size zero a xs = refl
runs_from size (suc n) a xs =
    ap (λ l. take size (drop (size * a) xs) ∷ l)
    (runs_from size n (a + 1) xs
    ∙ ap (first_chunks size n)
    (ap (λ m. drop m xs) (mul-add size a 1 ∙ omega arith)
    ∙ sym (drop-drop size (size * a) xs)))

first_chunks-places : (size n : ℕ) (xs : List ℕ)
    → map (λ k. take size (drop (size * k) xs)) (range_with_len 0 n) ≡ first_chunks size n xs
first_chunks-places size n xs =
    runs_from size n 0 xs ∙ ap (λ m. first_chunks size n (drop m xs)) (mul-zero size)

same_from : {X : Type 0} (f g : ℕ → X) (n a : ℕ) → ((k : ℕ) → k < a + n → f k ≡ g k)
    → map f (range_with_len a n) ≡ map g (range_with_len a n)
same_from f g zero a h = refl
same_from f g (suc n) a h =
    (λ i. h a (omega arith) i
    ∷ same_from f g n (a + 1) (λ k below. h k (omega arith)) i)

-- functions that agree below n
pub map-range-same : {X : Type 0} (f g : ℕ → X) (n : ℕ) → ((k : ℕ) → k < n → f k ≡ g k)
    → map f (range_with_len 0 n) ≡ map g (range_with_len 0 n)
map-range-same f g n h = same_from f g n 0 (λ k below. h k (omega arith))

-- the first digits of a word of bits are the numbers of its first runs
pub digits-runs : (order : BitOrder) (size count n : ℕ) (bits : List ℕ) → AreBits bits
    → length bits ≤ size * count → n ≤ count
    → map (digit order size count (number_of order (zeros_to (size * count) bits)))
    (range_with_len 0 n)
    ≡ map (number_of order) (first_chunks size n (zeros_to (size * count) bits))
digits-runs order size count n bits h e k =
    let extra = size * count - length bits in
    let all = zeros_to (size * count) bits in
    let are : AreBits all = AreBits-append bits (replicate extra 0) h (AreBits-zeros extra) in
    let len : length all ≡ size * count = simp (length-append, length-replicate) (omega arith) in
    map-range-same (digit order size count (number_of order all))
    (λ j. number_of order (take size (drop (size * j) all))) n
    (λ j below. digit-number_of order size count j all are len (omega arith))
    ∙ sym (map-twice (number_of order) (λ j. take size (drop (size * j) all)) (range_with_len 0 n))
    ∙ ap (map (number_of order)) (first_chunks-places size n all)

-- a shifted byte
pub shifted-whole : (byte shift : ℕ) → byte < 256 → shift ≤ 48
    → byte * 2 ^ shift % 18446744073709551616 ≡ byte * 2 ^ shift
shifted-whole byte shift h k = shl_whole byte 8 shift 64 h (omega (arith, k))

pub shifted-small : (byte shift : ℕ) → byte < 256 → shift ≤ 48
    → byte * 2 ^ shift % 18446744073709551616 ≤ 72057594037927936
shifted-small byte shift h k =
    let most : byte * 2 ^ shift ≤ 255 * 281474976710656 =
    mul-le byte (2 ^ shift) 255 281474976710656 (omega (arith, h)) (pow_mono k) in
    omega (arith, shifted-whole byte shift h k, most)

-- no more digits than bits
pub few_digits : (size count bits : ℕ) → 0 < size → size * count ≤ bits → count ≤ bits
few_digits size count bits h k =
    omega (arith, mul-le 1 count size count (omega arith) (omega arith))
