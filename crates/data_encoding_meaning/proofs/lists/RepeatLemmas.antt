-- A list that is repeated.
use Rattle.std.proofs.Common.{◌≡◌, ℕ, zero, suc, ◌+◌, ◌-◌, ◌*◌, ◌%◌, ◌<◌, ◌≤◌, List, ◌∷◌, length, map, take, get_or, replicate, refl, sym, ap, ◌∙◌, arith, ⊎_elim, length-append, append_assoc, ◌++◌}
use Rattle.std.proofs.Math.Nat.{mod-eq-sub-mod, mod-eq_of_lt, zero-mul, zero-add, suc-add}
use Rattle.std.proofs.lemmas.Bool.{cases_lt}
use Rattle.std.proofs.lemmas.List.{get_or_append_left, get_or-append_right, take_at}
use Rattle.std.specs.List.{concat}

abbrev repeats : ℕ → List ℕ → List ℕ
repeats times xs = concat (replicate times xs)

pub length-repeats : (times : ℕ) (xs : List ℕ)
    → length (concat (replicate times xs)) ≡ times * length xs
length-repeats zero xs = sym (zero-mul (length xs))
length-repeats (suc times) xs =
    omega (arith, length-append xs (repeats times xs), length-repeats times xs)

pub get_or-repeats : (times : ℕ) (xs : List ℕ) (k : ℕ) → k < times * length xs
    → get_or (concat (replicate times xs)) k 0 ≡ get_or xs (k % length xs) 0
get_or-repeats zero xs k h = absurd (omega (arith, h, zero-mul (length xs)))
get_or-repeats (suc times) xs k h =
    let size = length xs in
    ⊎_elim
    (λ (first : k < size).
    get_or_append_left xs (repeats times xs) 0 k first
    ∙ ap (λ n. get_or xs n 0) (sym (mod-eq_of_lt first)))
    (λ (later : size ≤ k).
    get_or-append_right xs (repeats times xs) size k 0 refl later
    ∙ get_or-repeats times xs (k - size) (omega (arith, h))
    ∙ ap (λ n. get_or xs n 0) (sym (mod-eq-sub-mod later)))
    (cases_lt k size)

-- twice as many
pub repeats-add : (m n : ℕ) (xs : List ℕ)
    → concat (replicate (m + n) xs) ≡ concat (replicate m xs) ++ concat (replicate n xs)
repeats-add zero n xs = ap (λ k. repeats k xs) (zero-add n)
repeats-add (suc m) n xs =
    ap (λ k. repeats k xs) (suc-add m n) ∙ ap (λ l. xs ++ l) (repeats-add m n xs)
    ∙ sym (append_assoc xs (repeats m xs) (repeats n xs))

-- the first of them
pub take-repeats : (times : ℕ) (xs : List ℕ) → 0 < times
    → take (length xs) (concat (replicate times xs)) ≡ xs
take-repeats zero xs h = absurd (omega (arith, h))
take-repeats (suc times) xs h = take_at xs (repeats times xs) (length xs) refl

-- a function of each of a run
pub map-replicate : {X : Type 0} (f : ℕ → X) (x : X) (n a : ℕ) → f a ≡ x
    → map f (replicate n a) ≡ replicate n x
map-replicate f x zero a h = refl
map-replicate f x (suc n) a h = (λ i. h i ∷ map-replicate f x n a h i)
