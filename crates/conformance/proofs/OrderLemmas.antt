-- A comparison of slices of bytes, as an order of lists.
use Rattle.std.proofs.Common.{◌≡◌, ◌↔◌, ℕ, ◌<◌, ◌==◌, nat_lt, Some, Bool, true, false, cond, List, [], ◌∷◌, refl, sym, ap, ◌∙◌, inl, inr, ⊎_elim, arith}
use Rattle.std.proofs.lemmas.Bool.{eqb-true, lt-ltb, ltb-true}
use Rattle.std.proofs.lemmas.Bool.Decides.{nat_tests}
use Rattle.std.proofs.lemmas.Cmp.{same_from_slice_cmp_tested}
use Rattle.std.specs.Cmp.Lexicographic.{slice_partial_cmp}
use Rattle.std.specs.Ordering.{is_lt, is_some_and, nat_cmp}
use Rattle.data_encoding.specs.Order.{IsBefore}

-- `true` if the first list comes before the second
abbrev is_before : List ℕ → List ℕ → Bool
is_before [] [] = false
is_before [] (y ∷ ys) = true
is_before (x ∷ xs) [] = false
is_before (x ∷ xs) (y ∷ ys) = cond (x == y) (is_before xs ys) (nat_lt x y)

before-true : (xs ys : List ℕ) → is_before xs ys ≡ true → IsBefore xs ys
before-true [] [] h = cc
before-true [] (y ∷ ys) h = tt
before-true (x ∷ xs) [] h = cc
before-true (x ∷ xs) (y ∷ ys) h = by (x == y) refl (before-true xs ys) h where
  by : (b : Bool) → (x == y) ≡ b → (is_before xs ys ≡ true → IsBefore xs ys)
      → cond b (is_before xs ys) (nat_lt x y) ≡ true → IsBefore (x ∷ xs) (y ∷ ys)
  by true same others k = inr (eqb-true x y same, others k)
  by false apart others k = inl (ltb-true x y k)

true-before : (xs ys : List ℕ) → IsBefore xs ys → is_before xs ys ≡ true
true-before xs [] h = absurd h
true-before [] (y ∷ ys) h = refl
true-before (x ∷ xs) (y ∷ ys) h =
    ⊎_elim
    (λ (less : x < y).
    let apart : (x == y) ≡ false = grind (arith, nat_tests, less) in
    ap (λ b. cond b (is_before xs ys) (nat_lt x y)) apart ∙ lt-ltb x y less)
    (λ (here : (x ≡ y) × IsBefore xs ys).
    let same : (x == y) ≡ true = grind (arith, nat_tests, here.0) in
    ap (λ b. cond b (is_before xs ys) (nat_lt x y)) same ∙ true-before xs ys here.1)
    h

compared : (xs ys : List ℕ) (result : Bool)
    → result ≡ is_some_and is_lt (slice_partial_cmp (λ x y. Some (nat_cmp x y)) xs ys)
    → result ≡ is_before xs ys
compared =
    same_from_slice_cmp_tested nat_cmp is_lt is_before refl (λ _ _. refl) (λ _ _. refl)
    (λ x y xs ys o h. grind (arith, nat_tests))

-- `<` decides the order of lists
pub less-IsBefore : (xs ys : List ℕ) (result : Bool)
    → result ≡ is_some_and is_lt (slice_partial_cmp (λ x y. Some (nat_cmp x y)) xs ys)
    → (result ≡ true) ↔ IsBefore xs ys
less-IsBefore xs ys result h = (
  (λ is. before-true xs ys (sym (compared xs ys result h) ∙ is)),
  (λ before. compared xs ys result h ∙ true-before xs ys before),
)
