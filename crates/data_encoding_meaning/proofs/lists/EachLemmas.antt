-- Tests that all elements of a list pass.
use Rattle.std.proofs.Common.{◌≡◌, ℕ, zero, suc, ◌+◌, ◌<◌, ◌≤◌, Bool, true, false, ◌&&◌, cond, List, [], ◌∷◌, ◌++◌, length, replicate, reverse, get_or, slice_index, refl, sym, ap, ◌∙◌, subst, arith, ⊎_elim, map}
use Rattle.std.proofs.Math.ListN.{set}
use Rattle.std.specs.Cmp.{first_so, second_so}
use Rattle.std.specs.List.{AllByRecursion, filter, list_all, list_any, range_with_len}
use Rattle.std.proofs.lemmas.List.{reverse-append}
use Rattle.std.proofs.lemmas.Bool.{cases_eq, false≢true}
use Rattle.std.proofs.lemmas.List.Elements.{All-from_get_or, All-from_recursion, All-get_or, All-replicate, All-set, recursion_from_All}
use Rattle.std.proofs.lemmas.List.Folds.{list_any_none}
use Rattle.std.proofs.lemmas.List.Sums.{AllPass-from_list_all, list_all-from_AllPass}

-- at one index
pub all-at : (P : ℕ → Type 0) (xs : List ℕ) → AllByRecursion P xs → (k : ℕ) → k < length xs
    → P (slice_index xs k)
all-at P [] all k h = absurd (omega (arith, h))
all-at P (x ∷ xs) all zero h = all.0
all-at P (x ∷ xs) all (suc k) h = all-at P xs all.1 k (omega (arith, h))

pub passes_at : {X : Type 0} (test : X → Bool) (xs : List X) (i : ℕ) (d : X) → list_all test xs
    ≡ true
    → i < length xs → test (get_or xs i d) ≡ true
passes_at test xs i d h e =
    All-get_or (λ x. test x ≡ true) xs i d e (AllPass-from_list_all test xs h)

pub list_all-cons : {X : Type 0} (test : X → Bool) (x : X) (xs : List X) → test x ≡ true
    → list_all test xs ≡ true → list_all test (x ∷ xs) ≡ true
list_all-cons test x xs h k = ap (λ b. b && list_all test xs) h ∙ k

pub list_all-each : {X : Type 0} (test : X → Bool) (xs : List X)
    → AllByRecursion (λ x. test x ≡ true) xs → list_all test xs ≡ true
list_all-each test xs h =
    list_all-from_AllPass test xs (All-from_recursion (λ x. test x ≡ true) xs h)

-- after a write
pub list_all-set : {X : Type 0} (test : X → Bool) (xs : List X) (i : ℕ) (y : X) → test y ≡ true
    → list_all test xs ≡ true → list_all test (set xs i y) ≡ true
list_all-set test xs i y h k =
    list_all-from_AllPass test (set xs i y)
    (All-set (λ x. test x ≡ true) xs i y h (AllPass-from_list_all test xs k))

-- if each passes at its index
pub list_all-places : {X : Type 0} (test : X → Bool) (xs : List X) (d : X)
    → ((i : ℕ) → i < length xs → test (get_or xs i d) ≡ true) → list_all test xs ≡ true
list_all-places test xs d h =
    list_all-from_AllPass test xs (All-from_get_or (λ x. test x ≡ true) xs d h)

-- a test that follows from two others
pub list_all-both : {X : Type 0} (a b test : X → Bool)
    → ((x : X) → a x ≡ true → b x ≡ true → test x ≡ true) → (xs : List X)
    → list_all a xs ≡ true → list_all b xs ≡ true → list_all test xs ≡ true
list_all-both a b test step [] h k = refl
list_all-both a b test step (x ∷ xs) h k =
    list_all-cons test x xs
    (step x (first_so (a x) (list_all a xs) h) (first_so (b x) (list_all b xs) k))
    (list_all-both a b test step xs (second_so (a x) (list_all a xs) h)
    (second_so (b x) (list_all b xs) k))

-- a test that each fails is passed by none
pub none_passes : {X : Type 0} (test : X → Bool) (xs : List X) (d : X)
    → ((i : ℕ) → i < length xs → test (get_or xs i d) ≡ false) → list_any test xs ≡ false
none_passes test xs d h =
    list_any_none test xs (All-from_get_or (λ x. test x ≡ false) xs d h)

-- what follows from what holds of each
pub all_weaker : {X : Type 0} (P Q : X → Type 0) → ((x : X) → P x → Q x) → (xs : List X)
    → AllByRecursion P xs → AllByRecursion Q xs
all_weaker P Q next [] h = tt
all_weaker P Q next (x ∷ xs) h = (next x h.0, all_weaker P Q next xs h.1)

pub all_replicate : {X : Type 0} (P : X → Type 0) (n : ℕ) (x : X) → P x
    → AllByRecursion P (replicate n x)
all_replicate P n x h = recursion_from_All P (replicate n x) (All-replicate P n x h)

-- what holds of all of two lists
pub all_parts : {X : Type 0} (P : X → Type 0) (xs ys : List X) → AllByRecursion P (xs ++ ys)
    → AllByRecursion P xs × AllByRecursion P ys
all_parts P [] ys h = (tt, h)
all_parts P (x ∷ xs) ys h = let rest = all_parts P xs ys h.1 in ((h.0, rest.0), rest.1)

pub all_joined : {X : Type 0} (P : X → Type 0) (xs ys : List X) → AllByRecursion P xs
    → AllByRecursion P ys → AllByRecursion P (xs ++ ys)
all_joined P [] ys h k = k
all_joined P (x ∷ xs) ys h k = (h.0, all_joined P xs ys h.1 k)

pub all_reversed : {X : Type 0} (P : X → Type 0) (xs : List X) → AllByRecursion P xs
    → AllByRecursion P (reverse xs)
all_reversed P [] h = tt
all_reversed P (x ∷ xs) h =
    rw (reverse-append (x ∷ []) xs)
    (all_joined P (reverse xs) (x ∷ []) (all_reversed P xs h.1) (h.0, tt))

-- of the numbers of a range that pass a test
pub all_in_range : (P : ℕ → Type 0) (test : ℕ → Bool) (a n : ℕ)
    → ((k : ℕ) → a ≤ k → k < a + n → test k ≡ true → P k)
    → AllByRecursion P (filter test (range_with_len a n))
all_in_range P test a zero h = tt
all_in_range P test a (suc n) h =
    first (test a) (λ e. h a (omega arith) (omega arith) e)
    (all_in_range P test (a + 1) n (λ k low high. h k (omega arith) (omega arith))) where
      first : (b : Bool) → (b ≡ true → P a)
          → AllByRecursion P (filter test (range_with_len (a + 1) n))
          → AllByRecursion P (cond b (a ∷ filter test (range_with_len (a + 1) n))
          (filter test (range_with_len (a + 1) n)))
      first true here rest = (here refl, rest)
      first false here rest = rest

pub at_in_range : (P : ℕ → Type 0) (test : ℕ → Bool) (a n k : ℕ)
    → AllByRecursion P (filter test (range_with_len a n)) → a ≤ k → k < a + n → test k ≡ true
    → P k
at_in_range P test a zero k all low high h = absurd (omega arith)
at_in_range P test a (suc n) k all low high h =
    let parts = split (test a) refl all in
    ⊎_elim
    (λ (same : a ≡ k). subst P same (parts.0 (ap test same ∙ h)))
    (λ (apart : a ≡ k → ⊥).
    at_in_range P test (a + 1) n k parts.1 (omega arith) (omega arith) h)
    (cases_eq a k) where
      split : (b : Bool) → test a ≡ b
          → AllByRecursion P (cond b (a ∷ filter test (range_with_len (a + 1) n))
          (filter test (range_with_len (a + 1) n)))
          → (test a ≡ true → P a) × AllByRecursion P (filter test (range_with_len (a + 1) n))
      split true is all = ((λ e. all.0), all.1)
      split false is all = ((λ e. absurd (false≢true (sym is ∙ e))), all)

pub map-twice : {X Y Z : Type 0} (f : Y → Z) (g : X → Y) (xs : List X)
    → map f (map g xs) ≡ map (λ x. f (g x)) xs
map-twice f g [] = refl
map-twice f g (x ∷ xs) = ap (λ l. f (g x) ∷ l) (map-twice f g xs)
