-- Lists: what is found first, what is left out, and lists that are joined.
use Rattle.std.proofs.Common.{◌≡◌, ℕ, suc, ◌+◌, ◌≤◌, Bool, true, false, not, cond, ◌||◌, nat_lt, List, [], ◌∷◌, ◌++◌, length, map, take, drop, replicate, Option, Some, None, refl, sym, ap, ◌∙◌, arith}
use Rattle.std.proofs.lemmas.Bool.Decides.{nat_tests}
use Rattle.std.specs.List.{AllByRecursion, list_any, filter, position, prefix_len}
use Rattle.std.proofs.lemmas.List.{take_at, drop_at}
use Rattle.std.proofs.lemmas.List.Elements.{All-from_recursion}
use Rattle.std.proofs.lemmas.List.Folds.{list_any_none}
use Rattle.std.proofs.lemmas.List.Sums.{count_by-le-length, length-filter as length-filter_is}

-- none passes the test
abbrev pub AllFail : {X : Type 0} → (X → Bool) → List X → Type 0
AllFail test xs = AllByRecursion (λ x. test x ≡ false) xs

prefix_len-all : {X : Type 0} (test : X → Bool) (xs : List X) → AllFail test xs
    → prefix_len (λ x. not (test x)) xs ≡ length xs
prefix_len-all test [] h = refl
prefix_len-all test (x ∷ xs) h =
    ap (λ b. cond (not b) (1 + prefix_len (λ y. not (test y)) xs) 0) h.0
    ∙ ap (λ n. 1 + n) (prefix_len-all test xs h.1) ∙ omega arith

fails : (b : Bool) (m n : ℕ) → suc m ≤ cond (not b) (1 + n) 0 → (b ≡ false) × (m ≤ n)
fails true m n h = absurd (omega (arith, h))
fails false m n h = (refl, omega (arith, h))

AllFail-prefix_len : {X : Type 0} (test : X → Bool) (xs : List X)
    → length xs ≤ prefix_len (λ x. not (test x)) xs → AllFail test xs
AllFail-prefix_len test [] h = tt
AllFail-prefix_len test (x ∷ xs) h =
    let here = fails (test x) (length xs) (prefix_len (λ y. not (test y)) xs) h in
    (here.0, AllFail-prefix_len test xs here.1)

-- nothing is found if and only if none passes
pub position-none : {X : Type 0} (test : X → Bool) (xs : List X) → AllFail test xs
    → position test xs ≡ None
position-none test xs h =
    let place = prefix_len (λ x. not (test x)) xs in
    let past : nat_lt place (length xs)
    ≡ false = grind (arith, nat_tests, prefix_len-all test xs h) in
    ap (λ b. cond b (Some place) None) past

-- if a choice gives nothing, its test fails, and the other branch gives nothing
cond-none : {A : Type 0} (b : Bool) (x : A) (o : Option A) → cond b (Some x) o ≡ None
    → (b ≡ false) × (o ≡ None)
cond-none true x o h = cc
cond-none false x o h = (refl, h)

pub AllFail-position : {X : Type 0} (test : X → Bool) (xs : List X) → position test xs ≡ None
    → AllFail test xs
AllFail-position test xs h =
    let place = prefix_len (λ x. not (test x)) xs in
    let past = (cond-none (nat_lt place (length xs)) place None h).0 in
    AllFail-prefix_len test xs (grind (arith, nat_tests))

-- the same of a test of each
pub list_any-none : {X : Type 0} (test : X → Bool) (xs : List X) → AllFail test xs
    → list_any test xs ≡ false
list_any-none test xs h = list_any_none test xs (All-from_recursion (λ x. test x ≡ false) xs h)

neither : (a b : Bool) → (a || b) ≡ false → (a ≡ false) × (b ≡ false)
neither true b h = cc
neither false b h = (refl, h)

pub AllFail-list_any : {X : Type 0} (test : X → Bool) (xs : List X) → list_any test xs ≡ false
    → AllFail test xs
AllFail-list_any test [] h = tt
AllFail-list_any test (x ∷ xs) h =
    let both = neither (test x) (list_any test xs) h in
    (both.0, AllFail-list_any test xs both.1)

-- nothing is left out
pub filter-all : {X : Type 0} (test : X → Bool) (xs : List X)
    → AllByRecursion (λ x. test x ≡ true) xs → filter test xs ≡ xs
filter-all test [] h = refl
filter-all test (x ∷ xs) h =
    ap (λ b. cond b (x ∷ filter test xs) (filter test xs)) h.0
    ∙ ap (λ l. x ∷ l) (filter-all test xs h.1)

-- what is left of the images are the images of what is left
pub map-filter : {X Y : Type 0} (f : X → Y) (test : Y → Bool) (xs : List X)
    → map f (filter (λ x. test (f x)) xs) ≡ filter test (map f xs)
map-filter f test [] = refl
map-filter {X} f test (x ∷ xs) =
    by (test (f x)) (filter (λ y. test (f y)) xs)
    ∙ ap (λ l. cond (test (f x)) (f x ∷ l) l) (map-filter f test xs) where
      by : (b : Bool) (l : List X) → map f (cond b (x ∷ l) l) ≡ cond b (f x ∷ map f l) (map f l)
      by true l = refl
      by false l = refl

pub length-filter : {X : Type 0} (test : X → Bool) (xs : List X)
    → length (filter test xs) ≤ length xs
length-filter test xs = omega (arith, length-filter_is test xs, count_by-le-length test xs)

-- two lists that are joined at the same index to the same list are equal
pub parts_same : {X : Type 0} (xs ys zs ws : List X) → xs ++ ys ≡ zs ++ ws
    → length xs ≡ length zs → (xs ≡ zs) × (ys ≡ ws)
parts_same xs ys zs ws h e = (
  sym (take_at xs ys (length xs) refl) ∙ ap (take (length xs)) h ∙ take_at zs ws (length xs)
      (sym e),
  sym (drop_at xs ys (length xs) refl) ∙ ap (drop (length xs)) h
      ∙ drop_at zs ws (length xs) (sym e),
)

-- zeros
pub zeros : (xs : List ℕ) → AllByRecursion (λ x. x ≡ 0) xs → xs ≡ replicate (length xs) 0
zeros [] h = refl
zeros (x ∷ xs) h = (λ i. h.0 i ∷ zeros xs h.1 i)
