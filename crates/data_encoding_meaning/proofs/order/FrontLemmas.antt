-- Lists of bits in order, and their prefixes as numbers, the most significant bit first.
use Rattle.std.proofs.Common.{◌≡◌, ℕ, zero, suc, ◌+◌, ◌-◌, ◌*◌, ◌/◌, ◌%◌, ◌^◌, ◌<◌, ◌≤◌, List, [], ◌∷◌, ◌++◌, length, take, drop, replicate, reverse, refl, sym, ap, ◌∙◌, subst, arith, inl, inr, ◌⊎◌, ⊎_elim, length-append, append_assoc}
use Rattle.std.proofs.Math.Nat.{pow-succ'}
use Rattle.std.proofs.lemmas.Bool.{cases_lt}
use Rattle.std.proofs.lemmas.List.{length-reverse, reverse-append, length-drop}
use Rattle.std.specs.List.{AllByRecursion}
use Rattle.data_encoding_meaning.specs.declared.encoding.BitOrder.TheVariants.{MostSignificantFirst}
use Rattle.data_encoding_meaning.specs.text.Bits.{low_bits, bits_of, number_of, bits_of_bytes}
use Rattle.data_encoding_meaning.specs.laws.Order.{IsBefore}
use Rattle.data_encoding_meaning.proofs.digits.BitLemmas.{AreBits, length-bits_of, number_of-below, number-append, number-zeros, reverse-zeros}

-- the first n elements, with zeros after the last
abbrev pub front : ℕ → List ℕ → List ℕ
front zero xs = []
front (suc n) [] = 0 ∷ front n []
front (suc n) (x ∷ xs) = x ∷ front n xs

-- the number of that prefix
abbrev pub front_number : ℕ → List ℕ → ℕ
front_number n xs = number_of MostSignificantFirst (front n xs)

pub length-front : (n : ℕ) (xs : List ℕ) → length (front n xs) ≡ n
length-front zero xs = refl
length-front (suc n) [] = ap (λ k. suc k) (length-front n [])
length-front (suc n) (x ∷ xs) = ap (λ k. suc k) (length-front n xs)

AreBits-front : (n : ℕ) (xs : List ℕ) → AreBits xs → AreBits (front n xs)
AreBits-front zero xs h = tt
AreBits-front (suc n) [] h = (omega arith, AreBits-front n [] h)
AreBits-front (suc n) (x ∷ xs) h = (h.0, AreBits-front n xs h.1)

pub front-long : (n : ℕ) (xs : List ℕ) → n ≤ length xs → front n xs ≡ take n xs
front-long zero xs h = refl
front-long (suc n) [] h = absurd (omega (arith, h))
front-long (suc n) (x ∷ xs) h = ap (λ l. x ∷ l) (front-long n xs (omega (arith, h)))

front-nil : (n : ℕ) → front n [] ≡ replicate n 0
front-nil zero = refl
front-nil (suc n) = ap (λ l. 0 ∷ l) (front-nil n)

pub front-short : (n : ℕ) (xs : List ℕ) → length xs ≤ n
    → front n xs ≡ xs ++ replicate (n - length xs) 0
front-short n [] h =
    let all : n - 0 ≡ n = omega arith in
    front-nil n ∙ ap (λ k. replicate k 0) (sym all)
front-short zero (x ∷ xs) h = absurd (omega (arith, h))
front-short (suc n) (x ∷ xs) h =
    let others : n - length xs ≡ suc n - suc (length xs) = omega arith in
    ap (λ l. x ∷ l) (front-short n xs (omega (arith, h))
    ∙ ap (λ k. xs ++ replicate k 0) others)

pub front_number-below : (n : ℕ) (xs : List ℕ) → AreBits xs → front_number n xs < 2 ^ n
front_number-below n xs h =
    rw length-front at (number_of-below MostSignificantFirst (front n xs) (AreBits-front n xs h))

-- no bits
front_number-nil : (n : ℕ) → front_number n [] ≡ 0
front_number-nil n = rw (front-nil n, reverse-zeros n) (number-zeros n)

-- a bit more
front_number-cons : (n x : ℕ) (xs : List ℕ)
    → front_number (suc n) (x ∷ xs) ≡ front_number n xs + 2 ^ n * x
front_number-cons n x xs =
    let bits = front n xs in
    rw (reverse-append (x ∷ []) bits, number-append (reverse bits) (x ∷ []))
    (rw (length-reverse bits, length-front n xs) (omega arith))

-- The first of two lists comes before the second: by their first difference, or because it is a
-- prefix that is shorter by at least this many.
abbrev pub IsBeforeBy : ℕ → List ℕ → List ℕ → Type 0
IsBeforeBy n [] ys = n ≤ length ys
IsBeforeBy n (x ∷ xs) [] = ⊥
IsBeforeBy n (x ∷ xs) (y ∷ ys) = (x < y) ⊎ ((x ≡ y) × IsBeforeBy n xs ys)

before-after : (n : ℕ) (same xs ys : List ℕ) → IsBeforeBy n xs ys
    → IsBeforeBy n (same ++ xs) (same ++ ys)
before-after n [] xs ys h = h
before-after n (x ∷ same) xs ys h = inr (refl, before-after n same xs ys h)

-- the bits of a number, the last of them apart
bits_of-last : (count x : ℕ) (xs : List ℕ)
    → bits_of MostSignificantFirst (suc count) x ++ xs
    ≡ bits_of MostSignificantFirst count (x / 2) ++ (x % 2 ∷ xs)
bits_of-last count x xs = rw (reverse-append (x % 2 ∷ []) (low_bits count (x / 2)), append_assoc)

-- the bits of a lesser number, whatever follows
before-bits : (n count x y : ℕ) (xs ys : List ℕ) → x < y → y < 2 ^ count
    → IsBeforeBy n (bits_of MostSignificantFirst count x ++ xs)
    (bits_of MostSignificantFirst count y ++ ys)
before-bits n zero x y xs ys h k = absurd (omega (arith, h, k))
before-bits n (suc count) x y xs ys h k =
    let below : y < 2 * 2 ^ count = subst (λ m. y < m) (pow-succ' 2 count) k in
    rw (bits_of-last count x xs, bits_of-last count y ys)
    (⊎_elim
    (λ (less : x / 2 < y / 2).
    before-bits n count (x / 2) (y / 2) (x % 2 ∷ xs) (y % 2 ∷ ys) less (omega (arith, below)))
    (λ (more : y / 2 ≤ x / 2).
    let same : y / 2 ≡ x / 2 = omega (arith, h, more) in
    rw same (before-after n (bits_of MostSignificantFirst count (x / 2)) (x % 2 ∷ xs) (y % 2 ∷ ys)
    (inl (omega (arith, h, same)))))
    (cases_lt (x / 2) (y / 2)))

-- bytes in order have bits in order
pub before-bytes : (bytes others : List ℕ) → AllByRecursion (λ byte. byte < 256) others
    → IsBefore bytes others
    → IsBeforeBy 8 (bits_of_bytes MostSignificantFirst bytes)
    (bits_of_bytes MostSignificantFirst others)
before-bytes [] [] all h = absurd h
before-bytes (x ∷ xs) [] all h = absurd h
before-bytes [] (y ∷ ys) all h =
    omega (arith, length-append {A = ℕ}, length-bits_of MostSignificantFirst 8 y)
before-bytes (x ∷ xs) (y ∷ ys) all h =
    let bits = bits_of_bytes MostSignificantFirst xs in
    let more = bits_of_bytes MostSignificantFirst ys in
    ⊎_elim
    (λ (less : x < y). before-bits 8 8 x y bits more less all.0)
    (λ (same : (x ≡ y) × IsBefore xs ys).
    rw (← same.0)
    (before-after 8 (bits_of MostSignificantFirst 8 x) bits more
    (before-bytes xs ys all.1 same.1)))
    h

-- After prefixes with the same number, the first list ends and the second does not, or the rests
-- are in order.
abbrev pub IsRestBefore : ℕ → ℕ → List ℕ → List ℕ → Type 0
IsRestBefore n size xs ys =
    ((drop size xs ≡ []) × (0 < length (drop size ys))) ⊎ IsBeforeBy n (drop size xs) (drop size ys)

-- the number of the first prefix is less, or it is the same and the rest decides
pub front-compared : (n size : ℕ) (xs ys : List ℕ) → size < n → AreBits xs → AreBits ys
    → IsBeforeBy n xs ys
    → (front_number size xs < front_number size ys)
    ⊎ ((front_number size xs ≡ front_number size ys) × IsRestBefore n size xs ys)
front-compared n zero xs ys few h k before = inr (refl, inr before)
front-compared n (suc size) [] ys few h k before =
    let none = front_number-nil (suc size) in
    ⊎_elim
    (λ (less : 0 < front_number (suc size) ys). inl (omega (arith, none, less)))
    (λ (least : front_number (suc size) ys ≤ 0).
    let longer : 0 < length (drop (suc size) ys) =
    omega (arith, length-drop (suc size) ys, few, before) in
    inr (omega (arith, none, least), inl (refl, longer)))
    (cases_lt 0 (front_number (suc size) ys))
front-compared n (suc size) (x ∷ xs) [] few h k before = absurd before
front-compared n (suc size) (x ∷ xs) (y ∷ ys) few h k before =
    let one = front_number-cons size x xs in
    let other = front_number-cons size y ys in
    ⊎_elim
    (λ (less : x < y).
    let zero_first : x ≡ 0 = omega (arith, less, k.0) in
    let one_second : y ≡ 1 = omega (arith, less, k.0) in
    let below = front_number-below size xs h.1 in
    inl (omega (
      arith,
      one ∙ ap (λ b. front_number size xs + 2 ^ size * b) zero_first,
      other ∙ ap (λ b. front_number size ys + 2 ^ size * b) one_second,
      below,
    )))
    (λ (same : (x ≡ y) × IsBeforeBy n xs ys).
    let equal : 2 ^ size * x ≡ 2 ^ size * y = ap (λ b. 2 ^ size * b) same.0 in
    ⊎_elim
    (λ (less : front_number size xs < front_number size ys).
    inl (omega (arith, one, other, equal, less)))
    (λ (rest : (front_number size xs ≡ front_number size ys) × IsRestBefore n size xs ys).
    inr (omega (arith, one, other, equal, rest.0), rest.1))
    (front-compared n size xs ys (omega (arith, few)) h.1 k.1 same.1))
    before
