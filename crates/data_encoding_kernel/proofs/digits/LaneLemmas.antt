-- Lanes: the digits that make a wider lane, and computation lane by lane.
use Rattle.std.proofs.Common.{◌≡◌, ℕ, zero, suc, ◌+◌, ◌*◌, ◌/◌, ◌%◌, ◌^◌, ◌<◌, ◌≤◌, Bool, cond, List, [], ◌∷◌, ◌++◌, length, map, replicate, bit_and, bit_or, refl, sym, ap, ◌∙◌, arith}
use Rattle.std.proofs.Math.Nat.{pow-zero, pow-succ', mod-lt}
use Rattle.std.proofs.lemmas.Nat.{div-mul-add, mod-mul-add, pow_pos}
use Rattle.std.proofs.lemmas.Simd.{map-map, zip2_splat, zip2_of_maps, splat_is_map}
use Rattle.std.specs.Prelude.{flat_map}
use Rattle.std.specs.List.{AllByRecursion, range_with_len}
use Rattle.std.specs.Simd.Lanes.{number_l, digits_l, sel_l, zip2}
use Rattle.data_encoding_meaning.specs.declared.encoding.BitOrder.{BitOrder}
use Rattle.data_encoding_kernel.specs.Lanes.{digits_of, halved_lane}
use Rattle.data_encoding_kernel.specs.Words.{digit, weight}
use Rattle.data_encoding_meaning.proofs.digits.BitLemmas.{length-pieces}
use Rattle.data_encoding_meaning.proofs.lists.EachLemmas.{all_joined}

-- a number of lower digits, followed by higher ones
number-joined : (p : ℕ) (xs ys : List ℕ)
    → number_l p (xs ++ ys) ≡ number_l p xs + p ^ length xs * number_l p ys
number-joined p [] ys =
    omega (arith, ap (λ n. n * number_l p ys) (pow-zero p))
number-joined p (x ∷ xs) ys =
    omega (
      arith,
      ap (λ n. p * n) (number-joined p xs ys),
      ap (λ n. n * number_l p ys) (pow-succ' p (length xs)),
    )

-- zeros above change nothing
pub number-padded : (p : ℕ) (xs : List ℕ) (n : ℕ) → number_l p (xs ++ replicate n 0) ≡ number_l p xs
number-padded p [] zero = refl
number-padded p [] (suc n) = ap (λ m. 0 + p * m) (number-padded p [] n) ∙ omega arith
number-padded p (x ∷ xs) n = ap (λ m. x + p * m) (number-padded p xs n)

-- a wide digit made of k others each is their number
pub number-of-wide : (p k q : ℕ) → q ≡ p ^ k → (f : ℕ → List ℕ) (ws : List ℕ)
    → ((w : ℕ) → length (f w) ≡ k)
    → number_l q (map (λ w. number_l p (f w)) ws) ≡ number_l p (flat_map f ws)
number-of-wide p k q e f [] long = refl
number-of-wide p k q e f (w ∷ ws) long =
    (λ i. number_l p (f w) + (e ∙ sym (ap (λ n. p ^ n) (long w))) i
    * number-of-wide p k q e f ws long i)
    ∙ sym (number-joined p (f w) (flat_map f ws))

pub digits-of-number : (p : ℕ) (xs : List ℕ) → AllByRecursion (λ x. x < p) xs
    → digits_l p (length xs) (number_l p xs) ≡ xs
digits-of-number p [] h = refl
digits-of-number p (x ∷ xs) h =
    let turned : x + p * number_l p xs ≡ number_l p xs * p + x = omega arith in
    let low : (x + p * number_l p xs) % p ≡ x =
    ap (λ n. n % p) turned ∙ mod-mul-add (number_l p xs) p x h.0 in
    let high : (x + p * number_l p xs) / p ≡ number_l p xs =
    ap (λ n. n / p) turned ∙ div-mul-add (number_l p xs) p x h.0 in
    λ i. low i ∷ (ap (digits_l p (length xs)) high ∙ digits-of-number p xs h.1) i

pub all_pieces : {X Y : Type 0} (P : Y → Type 0) (f : X → List Y) (xs : List X)
    → ((x : X) → AllByRecursion P (f x)) → AllByRecursion P (flat_map f xs)
all_pieces P f [] h = tt
all_pieces P f (x ∷ xs) h = all_joined P (f x) (flat_map f xs) (h x) (all_pieces P f xs h)

-- wide lanes as their bytes
pub bytes-of-lanes : (k q n : ℕ) → q ≡ 256 ^ k → (f : ℕ → List ℕ) (ws : List ℕ)
    → n ≡ k * length ws → ((w : ℕ) → length (f w) ≡ k)
    → ((w : ℕ) → AllByRecursion (λ x. x < 256) (f w))
    → digits_l 256 n (number_l q (map (λ w. number_l 256 (f w)) ws)) ≡ flat_map f ws
bytes-of-lanes k q n e f ws many long small =
    let all : n ≡ length (flat_map f ws) = many ∙ sym (length-pieces k f ws long) in
    (λ i. digits_l 256 (all i) (number-of-wide 256 k q e f ws long i))
    ∙ digits-of-number 256 (flat_map f ws) (all_pieces (λ x. x < 256) f ws small)

-- a property of each value of a function
pub all_mapped : {X Y : Type 0} (P : Y → Type 0) (f : X → Y) (xs : List X) → ((x : X) → P (f x))
    → AllByRecursion P (map f xs)
all_mapped P f [] h = tt
all_mapped P f (x ∷ xs) h = (h x, all_mapped P f xs h)

pub digits_of-below : (order : BitOrder) (width count bound word : ℕ) → 2 ^ width ≤ bound
    → AllByRecursion (λ x. x < bound) (digits_of order width count word)
digits_of-below order width count bound word h =
    all_mapped (λ x. x < bound) (digit order width count word) (range_with_len 0 count)
    (λ k. omega (arith, h, mod-lt (word / 2 ^ weight order width count k) (pow_pos width)))

-- a selection lane by lane
pub select-mapped : {V X : Type 0} (test : V → Bool) (f g : V → X) (vs : List V)
    → sel_l (map test vs) (map f vs) (map g vs) ≡ map (λ v. cond (test v) (f v) (g v)) vs
select-mapped test f g [] = refl
select-mapped test f g (v ∷ vs) =
    ap (λ l. cond (test v) (f v) (g v) ∷ l) (select-mapped test f g vs)

-- functions that agree if P holds
pub map-same : {V X : Type 0} (P : V → Type 0) (f g : V → X) → ((v : V) → P v → f v ≡ g v)
    → (vs : List V) → AllByRecursion P vs → map f vs ≡ map g vs
map-same P f g same [] h = refl
map-same P f g same (v ∷ vs) h = λ i. same v h.0 i ∷ map-same P f g same vs h.1 i

-- lanes that are mapped once more
pub mapped-twice : (f g : ℕ → ℕ) (words : List ℕ) {xs ys : List ℕ} → xs ≡ map f words
    → ys ≡ map g xs → ys ≡ map (λ word. g (f word)) words
mapped-twice f g words is more = more ∙ ap (map g) is ∙ map-map g f words

-- a property of any two lanes
pub by_two : (P : List ℕ → Type 0) → ((a b : ℕ) → P (a ∷ b ∷ [])) → (ws : List ℕ) → length ws ≡ 2
    → P ws
by_two P is [] e = absurd (omega (arith, e))
by_two P is (a ∷ []) e = absurd (omega (arith, e))
by_two P is (a ∷ b ∷ []) e = is a b
by_two P is (a ∷ b ∷ x ∷ xs) e = absurd (omega (arith, e))

-- a property of any four lanes
pub by_four : (P : List ℕ → Type 0) → ((a b c d : ℕ) → P (a ∷ b ∷ c ∷ d ∷ []))
    → (ws : List ℕ) → length ws ≡ 4 → P ws
by_four P is [] e = absurd (omega (arith, e))
by_four P is (a ∷ []) e = absurd (omega (arith, e))
by_four P is (a ∷ b ∷ ws) e = by_two (λ l. P (a ∷ b ∷ l)) (is a b) ws (omega (arith, e))

-- a property of any eight lanes
pub by_eight : (P : List ℕ → Type 0)
    → ((a b c d e f g h : ℕ) → P (a ∷ b ∷ c ∷ d ∷ e ∷ f ∷ g ∷ h ∷ [])) → (ws : List ℕ)
    → length ws ≡ 8 → P ws
by_eight P is [] e = absurd (omega (arith, e))
by_eight P is (a ∷ []) e = absurd (omega (arith, e))
by_eight P is (a ∷ b ∷ []) e = absurd (omega (arith, e))
by_eight P is (a ∷ b ∷ c ∷ []) e = absurd (omega (arith, e))
by_eight P is (a ∷ b ∷ c ∷ d ∷ ws) e =
    by_four (λ l. P (a ∷ b ∷ c ∷ d ∷ l)) (is a b c d) ws (omega (arith, e))

-- the bits of each of eight lanes under one mask, and those under another moved up
pub halved-lanes : (bits low high up : ℕ) (lanes : List ℕ) → length lanes ≡ 8
    → zip2 bit_or (zip2 bit_and lanes (replicate 8 low))
    (zip2 (λ a b. a * 2 ^ b % 2 ^ bits) (zip2 bit_and lanes (replicate 8 high)) (replicate 8 up))
    ≡ map (halved_lane bits low high up) lanes
halved-lanes bits low high up lanes long =
    let moved = λ (a b : ℕ). a * 2 ^ b % 2 ^ bits in
    zip2_of_maps bit_or (λ a. bit_and a low) (λ a. moved (bit_and a high) up) lanes
    (zip2_splat bit_and lanes 8 low long)
    (zip2_of_maps moved (λ a. bit_and a high) (λ _. up) lanes
    (zip2_splat bit_and lanes 8 high long) (splat_is_map lanes 8 up long))
