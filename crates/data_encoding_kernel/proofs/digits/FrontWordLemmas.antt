-- The words of the first groups of values, from lanes with the words of half groups as halves.
-- The other lanes may hold anything.
use Rattle.std.proofs.Common.{◌≡◌, ℕ, zero, suc, ◌+◌, ◌*◌, ◌/◌, ◌%◌, ◌^◌, ◌<◌, ◌≤◌, List, [], ◌∷◌, length, map, take, drop, refl, sym, ap, ◌∙◌, subst, arith, length-take-le}
use Rattle.std.proofs.lemmas.List.{drop-take, length-map, take-map, take-take}
use Rattle.std.proofs.lemmas.Nat.{mul-pow, pow-add}
use Rattle.std.proofs.Math.Nat.{add-mul-mod_self_left, add-mul-div_left, mul_comm, mul-le-mul_left, mul-zero, mul-one, one-le-pow, pow-zero, pow-succ'}
use Rattle.std.specs.List.{AllByRecursion}
use Rattle.std.specs.Simd.{first_chunks}
use Rattle.std.specs.Simd.Lanes.{number_l, digits_l}
use Rattle.data_encoding_meaning.specs.declared.encoding.BitOrder.{BitOrder}
use Rattle.data_encoding_kernel.specs.Values.{joined}
use Rattle.data_encoding_kernel.specs.Words.{word_of}
use Rattle.data_encoding_kernel.proofs.digits.GatherWordLemmas.{relaned-words, words-of-one, words-step}

-- a power of a power
pub power-power : (a b n : ℕ) → (a ^ b) ^ n ≡ a ^ (b * n)
power-power a b zero = pow-zero (a ^ b) ∙ sym (ap (λ e. a ^ e) (mul-zero b) ∙ pow-zero a)
power-power a b (suc n) =
    let more : b * suc n ≡ b + b * n = omega arith in
    pow-succ' (a ^ b) n
    ∙ ap (λ m. a ^ b * m) (power-power a b n)
    ∙ sym (ap (λ e. a ^ e) more ∙ pow-add a b (b * n))

length-digits : (q n x : ℕ) → length (digits_l q n x) ≡ n
length-digits q zero x = refl
length-digits q (suc n) x = ap suc (length-digits q n (x / q))

-- the first digits of a number
digits-front : (q k n x : ℕ) → k ≤ n → take k (digits_l q n x) ≡ digits_l q k x
digits-front q zero n x few = refl
digits-front q (suc k) zero x few = absurd (omega (arith, few))
digits-front q (suc k) (suc n) x few =
    ap (λ l. x % q ∷ l) (digits-front q k n (x / q) (omega (arith, few)))

-- the first digits of a number are the digits of its lowest part
digits-low : (q k low high : ℕ) → 0 < q
    → digits_l q k (low + q ^ k * high) ≡ digits_l q k low
digits-low q zero low high pos = refl
digits-low q (suc k) low high pos =
    let rest = q ^ k * high in
    let whole : low + q ^ suc k * high ≡ low + q * rest =
    omega (arith, ap (λ p. p * high) (pow-succ' q k)) in
    ap (digits_l q (suc k)) whole
    ∙ (λ i. add-mul-mod_self_left low q rest i
    ∷ (ap (digits_l q k) (add-mul-div_left low rest {y = q} pos)
    ∙ digits-low q k (low / q) high pos) i)

-- the number of lanes, from the first ones and the others
pub number-parts : (p m : ℕ) (xs : List ℕ) → m ≤ length xs
    → number_l p xs ≡ number_l p (take m xs) + p ^ m * number_l p (drop m xs)
number-parts p zero xs few = omega (arith, ap (λ n. n * number_l p xs) (pow-zero p))
number-parts p (suc m) [] few = absurd (omega (arith, few))
number-parts p (suc m) (x ∷ xs) few =
    let rest = number_l p (drop m xs) in
    ap (λ n. x + p * n) (number-parts p m xs (omega (arith, few)))
    ∙ omega (arith, ap (λ n. n * rest) (pow-succ' p m))

-- the first lanes of another size are made of the first lanes
lanes-front : (p q m k n : ℕ) (xs : List ℕ) → 0 < q → k ≤ n → m ≤ length xs → q ^ k ≡ p ^ m
    → take k (digits_l q n (number_l p xs)) ≡ digits_l q k (number_l p (take m xs))
lanes-front p q m k n xs pos few within same =
    let low = number_l p (take m xs) in
    let high = number_l p (drop m xs) in
    digits-front q k n (number_l p xs) few
    ∙ ap (digits_l q k) (number-parts p m xs within ∙ ap (λ s. low + s * high) (sym same))
    ∙ digits-low q k low high pos

-- the first groups of a list are the groups of its front
pub groups-front : (size count : ℕ) (xs : List ℕ)
    → first_chunks size count (take (count * size) xs) ≡ first_chunks size count xs
groups-front size zero xs = refl
groups-front size (suc count) xs =
    let more : suc count * size ≡ size + count * size = omega arith in
    rw (
      more,
      take-take size (size + count * size) xs (omega arith),
      drop-take size (count * size) xs,
    )
    (ap (λ l. take size xs ∷ l) (groups-front size count (drop size xs)))

module _ (order : BitOrder) (size : ℕ) where
  -- the first words of two values
  pub pairs-front : size ≤ 8 → (n k : ℕ) (values : List ℕ) → n ≤ k → n + n ≤ length values
      → AllByRecursion (λ value. value < 2 ^ size) (take (n + n) values)
      → take n (map (joined order 8 size) (digits_l 65536 k (number_l 256 values)))
      ≡ map (word_of order size 2) (first_chunks 2 n (take (n + n) values))
  pairs-front narrow n k values few within small =
      let front = take (n + n) values in
      let long : length front ≡ n + n = length-take-le (n + n) values within in
      let same : 65536 ^ n ≡ 256 ^ (n + n) = mul-pow 256 256 n ∙ sym (pow-add 256 n n) in
      rw take-map refl
      ∙ ap (map (joined order 8 size))
      (lanes-front 256 65536 (n + n) n k values (omega arith) few within same
      ∙ ap (λ l. digits_l 65536 n (number_l 256 l))
      (words-of-one order size (n + n) front long small))
      ∙ words-step order size 8 1 size (sym (mul-one size)) narrow n front (long ∙ omega arith)

  -- the first words of twice as many values as the lanes have
  pub next-front : (half count part bytes : ℕ) → part ≡ size * count → part ≤ half
      → 2 ^ half * 2 ^ half ≡ 256 ^ bytes → (n k m : ℕ) (lanes values : List ℕ)
      → n ≤ k → bytes * n ≤ m → n + n ≤ length lanes → length values ≡ (count + count) * n
      → take (n + n) lanes ≡ map (word_of order size count) (first_chunks count (n + n) values)
      → take n (map (joined order half part) (digits_l (2 ^ half * 2 ^ half) k
      (number_l 256 (digits_l 256 m (number_l (2 ^ half) lanes)))))
      ≡ map (word_of order size (count + count)) (first_chunks (count + count) n values)
  next-front half count part bytes part_is narrow wide n k m lanes values few room within long
      first =
      let h = 2 ^ half in
      let one : 1 ≤ h = one-le-pow half 2 (omega arith) in
      let pos : 0 < h * h = omega (arith, one, mul-le-mul_left h one) in
      let same : (h * h) ^ n ≡ 256 ^ (bytes * n) =
      ap (λ q. q ^ n) wide ∙ power-power 256 bytes n in
      let halves : h ^ (n + n) ≡ 256 ^ (bytes * n) =
      pow-add h n n ∙ sym (mul-pow h h n) ∙ same in
      let shown = digits_l 256 m (number_l h lanes) in
      rw take-map refl
      ∙ ap (map (joined order half part))
      (lanes-front 256 (h * h) (bytes * n) n k shown pos few
      (omega (arith, room, length-digits 256 m (number_l h lanes))) same
      ∙ ap (λ l. digits_l (h * h) n (number_l 256 l))
      (lanes-front h 256 (n + n) (bytes * n) m lanes (omega arith) room within (sym halves)
      ∙ ap (λ l. digits_l 256 (bytes * n) (number_l h l)) first)
      ∙ relaned-words order size half count (omega (arith, part_is, narrow)) (h * h) n (n + n)
      (bytes * n) values (long ∙ omega arith) halves)
      ∙ words-step order size half count part part_is narrow n values long

  -- the first words of four values, from lanes of two
  pub fours-front : size ≤ 8 → (n k : ℕ) (values pairs : List ℕ) → n ≤ k
      → n * 4 ≤ length values → AllByRecursion (λ value. value < 2 ^ size) (take (n * 4) values)
      → pairs ≡ map (joined order 8 size) (digits_l 65536 (2 * k) (number_l 256 values))
      → take n (map (joined order 16 (2 * size)) (digits_l 4294967296 k
      (number_l 256 (digits_l 256 (4 * k) (number_l 65536 pairs)))))
      ≡ map (word_of order size 4) (first_chunks 4 n values)
  fours-front narrow n k values pairs few within small is =
      let front = take (n * 4) values in
      let twice : n * 4 ≡ (n + n) + (n + n) = omega arith in
      let long : length front ≡ n * 4 = length-take-le (n * 4) values within in
      let shown = digits_l 65536 (2 * k) (number_l 256 values) in
      let lanes : length pairs ≡ 2 * k =
      ap length is ∙ length-map shown (joined order 8 size)
      ∙ length-digits 65536 (2 * k) (number_l 256 values) in
      let first = ap (take (n + n)) is
      ∙ pairs-front narrow (n + n) (2 * k) values (omega (arith, few)) (omega (arith, within))
      (subst (λ len. AllByRecursion (λ value. value < 2 ^ size) (take len values)) twice small)
      ∙ ap (λ len. map (word_of order size 2) (first_chunks 2 (n + n) (take len values)))
      (sym twice) in
      next-front 16 2 (2 * size) 4 (mul_comm 2 size) (omega (arith, narrow)) refl n k (4 * k) pairs
      front few (omega (arith, few)) (omega (arith, few, lanes)) (long ∙ omega arith) first
      ∙ ap (map (word_of order size 4)) (groups-front 4 n values)

  -- the first words of eight values, from lanes of two and of four
  pub eights-front : size ≤ 8 → (n k : ℕ) (values pairs fours : List ℕ) → n ≤ k
      → n * 8 ≤ length values → AllByRecursion (λ value. value < 2 ^ size) (take (n * 8) values)
      → pairs ≡ map (joined order 8 size) (digits_l 65536 (2 * (2 * k)) (number_l 256 values))
      → fours ≡ map (joined order 16 (2 * size)) (digits_l 4294967296 (2 * k)
      (number_l 256 (digits_l 256 (4 * (2 * k)) (number_l 65536 pairs))))
      → take n (map (joined order 32 (4 * size)) (digits_l 18446744073709551616 k
      (number_l 256 (digits_l 256 (8 * k) (number_l 4294967296 fours)))))
      ≡ map (word_of order size 8) (first_chunks 8 n values)
  eights-front narrow n k values pairs fours few within small pairs_are is =
      let front = take (n * 8) values in
      let twice : n * 8 ≡ (n + n) * 4 = omega arith in
      let long : length front ≡ n * 8 = length-take-le (n * 8) values within in
      let shown = number_l 256 (digits_l 256 (4 * (2 * k)) (number_l 65536 pairs)) in
      let lanes : length fours ≡ 2 * k =
      ap length is
      ∙ length-map (digits_l 4294967296 (2 * k) shown) (joined order 16 (2 * size))
      ∙ length-digits 4294967296 (2 * k) shown in
      let first = ap (take (n + n)) is
      ∙ fours-front narrow (n + n) (2 * k) values pairs (omega (arith, few))
      (omega (arith, within))
      (subst (λ len. AllByRecursion (λ value. value < 2 ^ size) (take len values)) twice small)
      pairs_are
      ∙ ap (map (word_of order size 4)) (sym (groups-front 4 (n + n) values)
      ∙ ap (λ len. first_chunks 4 (n + n) (take len values)) (sym twice)) in
      next-front 32 4 (4 * size) 8 (mul_comm 4 size) (omega (arith, narrow)) refl n k (8 * k) fours
      front few (omega (arith, few)) (omega (arith, few, lanes)) (long ∙ omega arith) first
      ∙ ap (map (word_of order size 8)) (groups-front 8 n values)
