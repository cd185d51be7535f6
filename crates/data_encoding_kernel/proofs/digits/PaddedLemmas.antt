-- Bytes as numbers, the first byte the lowest, from two parts that may overlap.
use Rattle.std.proofs.Common.{◌≡◌, ℕ, zero, suc, ◌+◌, ◌-◌, ◌*◌, ◌/◌, ◌%◌, ◌^◌, ◌<◌, ◌≤◌, List, [], ◌∷◌, ◌++◌, length, take, drop, replicate, get_or, refl, sym, ap, ◌∙◌, arith}
use Rattle.std.proofs.Math.Nat.{div-div-eq-div-mul, pow-zero, pow-succ', suc-add, zero-add}
use Rattle.std.proofs.lemmas.List.{drop-drop, get_or-drop, length-drop}
use Rattle.std.specs.Simd.Lanes.{number_l, digits_l}
use Rattle.data_encoding_kernel.proofs.digits.FrontWordLemmas.{number-parts}

-- a number of bytes is below the power for their count
pub number-below : (xs : List ℕ) → ((k : ℕ) → get_or xs k 0 < 256)
    → number_l 256 xs < 256 ^ length xs
number-below [] small = omega (arith, pow-zero 256)
number-below (x ∷ xs) small =
    omega (arith, number-below xs (λ k. small (suc k)), small 0, pow-succ' 256 (length xs))

-- the number of one more byte
pub number-more : (i : ℕ) (xs : List ℕ) → i < length xs
    → number_l 256 (take (suc i) xs) ≡ number_l 256 (take i xs) + 256 ^ i * get_or xs i 0
number-more i [] inside = absurd (omega (arith, inside))
number-more zero (x ∷ xs) inside = omega (arith, ap (λ p. p * x) (pow-zero 256))
number-more (suc i) (x ∷ xs) inside =
    ap (λ n. x + 256 * n) (number-more i xs (omega (arith, inside)))
    ∙ omega (arith, ap (λ p. p * get_or xs i 0) (pow-succ' 256 i))

-- a shift drops the first bytes
number-after : (k : ℕ) (xs : List ℕ) → ((k : ℕ) → get_or xs k 0 < 256) → k ≤ length xs
    → number_l 256 xs / 256 ^ k ≡ number_l 256 (drop k xs)
number-after zero xs small few =
    ap (λ p. number_l 256 xs / p) (pow-zero 256) ∙ omega arith
number-after (suc k) [] small few = absurd (omega (arith, few))
number-after (suc k) (x ∷ xs) small few =
    let n = number_l 256 xs in
    let one : (x + 256 * n) / 256 ≡ n = omega (arith, small 0) in
    ap (λ p. (x + 256 * n) / p) (pow-succ' 256 k)
    ∙ sym (div-div-eq-div-mul (x + 256 * n) 256 (256 ^ k))
    ∙ ap (λ m. m / 256 ^ k) one
    ∙ number-after k xs (λ j. small (suc j)) (omega (arith, few))

-- the first w bytes, and the last w without those that are among the first
pub number-joined : (w : ℕ) (xs : List ℕ) → ((k : ℕ) → get_or xs k 0 < 256)
    → w ≤ length xs → length xs ≤ 2 * w
    → number_l 256 (take w xs)
    + 256 ^ w * (number_l 256 (drop (length xs - w) xs) / 256 ^ (2 * w - length xs))
    ≡ number_l 256 xs
number-joined w xs small enough few =
    let n = length xs in
    let last = drop (n - w) xs in
    let after : n - w + (2 * w - n) ≡ w = omega (arith, enough, few) in
    ap (λ m. number_l 256 (take w xs) + 256 ^ w * m)
    (number-after (2 * w - n) last (λ k. rw (get_or-drop (n - w) xs k 0) (small (n - w + k)))
    (omega (arith, length-drop (n - w) xs, enough))
    ∙ ap (number_l 256) (drop-drop (2 * w - n) (n - w) xs ∙ ap (λ m. drop m xs) after))
    ∙ sym (number-parts 256 w xs enough)

zeros : (m : ℕ) → digits_l 256 m 0 ≡ replicate m 0
zeros zero = refl
zeros (suc m) = ap (λ l. 0 ∷ l) (zeros m)

-- the bytes of a number, and zeros
pub digits-padded : (m : ℕ) (xs : List ℕ) → ((k : ℕ) → get_or xs k 0 < 256)
    → digits_l 256 (length xs + m) (number_l 256 xs) ≡ xs ++ replicate m 0
digits-padded m [] small = ap (λ n. digits_l 256 n 0) (zero-add m) ∙ zeros m
digits-padded m (x ∷ xs) small =
    let n = number_l 256 xs in
    let first : (x + 256 * n) % 256 ≡ x = omega (arith, small 0) in
    let others : (x + 256 * n) / 256 ≡ n = omega (arith, small 0) in
    ap (λ k. digits_l 256 k (x + 256 * n)) (suc-add (length xs) m)
    ∙ (λ i. first i ∷ digits_l 256 (length xs + m) (others i))
    ∙ ap (λ l. x ∷ l) (digits-padded m xs (λ k. small (suc k)))
