-- The longest end of a list that passes a test.
use Rattle.std.proofs.Common.{◌≡◌, ℕ, ◌-◌, ◌<◌, ◌≤◌, Bool, true, false, cond, List, [], ◌∷◌, ◌++◌, length, map, drop, get_or, reverse, refl, sym, ap, ◌∙◌, subst, arith, length-append, take-append-drop}
use Rattle.std.specs.List.{AllByRecursion, take_while, prefix_len}
use Rattle.std.proofs.lemmas.List.{length-map, length-reverse, get_or-reverse, reverse-append, reverse-reverse, map-append, drop_at}
use Rattle.std.proofs.lemmas.Bool.{false≢true}
use Rattle.std.proofs.lemmas.List.Folds.{length-prefix_len}
use Rattle.std.proofs.lemmas.List.Sums.{prefix_len-le-length, prefix_len_passes, prefix_len_stops, take_while-cons}
use Rattle.data_encoding_meaning.proofs.lists.ListLemmas.{AllFail}
use Rattle.data_encoding_meaning.proofs.lists.EachLemmas.{all_reversed}

-- each passes the test
abbrev pub AllSo : {X : Type 0} → (X → Bool) → List X → Type 0
AllSo test xs = AllByRecursion (λ x. test x ≡ true) xs

reverse-map : {X Y : Type 0} (f : X → Y) (xs : List X) → reverse (map f xs) ≡ map f (reverse xs)
reverse-map f [] = refl
reverse-map f (x ∷ xs) =
    reverse-append (f x ∷ []) (map f xs) ∙ ap (λ l. l ++ f x ∷ []) (reverse-map f xs)
    ∙ sym (map-append f (reverse xs) (x ∷ [])) ∙ ap (map f) (sym (reverse-append (x ∷ []) xs))

take_while-map : {X Y : Type 0} (test : Y → Bool) (f : X → Y) (xs : List X)
    → take_while test (map f xs) ≡ map f (take_while (λ x. test (f x)) xs)
take_while-map test f [] = refl
take_while-map {X = X} test f (x ∷ xs) =
    take_while-cons test (f x) (map f xs)
    ∙ ap (λ l. cond (test (f x)) (f x ∷ l) []) (take_while-map test f xs)
    ∙ of_cond (test (f x)) (take_while (λ y. test (f y)) xs)
    ∙ ap (map f) (sym (take_while-cons (λ y. test (f y)) x xs)) where
      of_cond : (b : Bool) (l : List X) → cond b (f x ∷ map f l) [] ≡ map f (cond b (x ∷ l) [])
      of_cond true l = refl
      of_cond false l = refl

take_while-passes : {X : Type 0} (test : X → Bool) (xs : List X) → AllSo test (take_while test xs)
take_while-passes test [] = tt
take_while-passes test (x ∷ xs) =
    subst (AllSo test) (sym (take_while-cons test x xs))
    (both (test x) refl (take_while-passes test xs)) where
      both : (b : Bool) → test x ≡ b → AllSo test (take_while test xs)
          → AllSo test (cond b (x ∷ take_while test xs) [])
      both true here h = (here, h)
      both false here h = tt

take_while-joined : {X : Type 0} (test : X → Bool) (xs ys : List X) → AllSo test xs
    → AllFail test ys → take_while test (xs ++ ys) ≡ xs
take_while-joined test [] [] h k = refl
take_while-joined test [] (y ∷ ys) h k =
    take_while-cons test y ys ∙ ap (λ b. cond b (y ∷ take_while test ys) []) k.0
take_while-joined test (x ∷ xs) ys h k =
    take_while-cons test x (xs ++ ys)
    ∙ ap (λ b. cond b (x ∷ take_while test (xs ++ ys)) []) h.0
    ∙ ap (λ l. x ∷ l) (take_while-joined test xs ys h.1 k)

-- how many come before that end
abbrev pub count_before_end : {X : Type 0} → (X → Bool) → List X → ℕ
count_before_end test xs = length xs - length (take_while test (reverse xs))

pub count_before_end-map : {X Y : Type 0} (test : Y → Bool) (f : X → Y) (xs : List X)
    → count_before_end test (map f xs) ≡ count_before_end (λ x. test (f x)) xs
count_before_end-map test f xs =
    let passed : length (take_while test (reverse (map f xs)))
    ≡ length (take_while (λ x. test (f x)) (reverse xs)) =
    ap (λ l. length (take_while test l)) (reverse-map f xs)
    ∙ ap length (take_while-map test f (reverse xs))
    ∙ length-map (take_while (λ x. test (f x)) (reverse xs)) f in
    (λ i. length-map xs f i - passed i)

-- what follows from there on passes
pub end-passes : {X : Type 0} (test : X → Bool) (xs : List X)
    → AllSo test (drop (count_before_end test xs) xs)
end-passes test xs =
    let count = prefix_len test (reverse xs) in
    let passed = take_while test (reverse xs) in
    let others = drop count (reverse xs) in
    let parts : reverse xs ≡ passed ++ others = sym (take-append-drop count (reverse xs)) in
    let turned : xs ≡ reverse others ++ reverse passed =
    sym (reverse-reverse xs) ∙ ap reverse parts ∙ reverse-append passed others in
    let before : length (reverse others) ≡ length xs - length passed =
    omega (
      arith,
      ap length turned,
      length-append (reverse others) (reverse passed),
      length-reverse passed,
    ) in
    subst (AllSo test)
    (sym (ap (drop (length xs - length passed)) turned
    ∙ drop_at (reverse others) (reverse passed) (length xs - length passed) before))
    (all_reversed (λ x. test x ≡ true) passed (take_while-passes test (reverse xs)))

-- if all at the end pass, and none before it, they are that end
pub count_before_end-is : {X : Type 0} (test : X → Bool) (xs front back : List X)
    → xs ≡ front ++ back → AllFail test front → AllSo test back
    → count_before_end test xs ≡ length front
count_before_end-is test xs front back is h k =
    let passed : take_while test (reverse xs) ≡ reverse back =
    ap (λ l. take_while test (reverse l)) is ∙ ap (take_while test) (reverse-append front back)
    ∙ take_while-joined test (reverse back) (reverse front)
    (all_reversed (λ x. test x ≡ true) back k) (all_reversed (λ x. test x ≡ false) front h) in
    (λ i. length (is i) - length (passed i))
    ∙ omega (arith, length-append front back, length-reverse back)

-- if each from one on passes, and the one before it fails, that one is the first of the end
pub count_before_end-at : {X : Type 0} (test : X → Bool) (xs : List X) (d : X) (count : ℕ)
    → count ≤ length xs
    → ((k : ℕ) → count ≤ k → k < length xs → test (get_or xs k d) ≡ true)
    → (0 < count → test (get_or xs (count - 1) d) ≡ false)
    → count_before_end test xs ≡ count
count_before_end-at test xs d count within all stops =
    let n = prefix_len test (reverse xs) in
    let len = length-reverse xs in
    let most = prefix_len-le-length test (reverse xs) in
    let at : (k : ℕ) → k < length xs → get_or (reverse xs) k d ≡ get_or xs (length xs - 1 - k) d =
    λ k h. get_or-reverse xs k d h in
    let least : n < length xs - count → ⊥ =
    λ few.
    false≢true (sym (prefix_len_stops test (reverse xs) d (omega (arith, few, len)))
    ∙ ap test (at n (omega (arith, few)))
    ∙ all (length xs - 1 - n) (omega (arith, few)) (omega (arith, few))) in
    let no_more : length xs - count < n → ⊥ =
    λ many.
    let place : length xs - 1 - (length xs - count) ≡ count - 1 =
    omega (arith, many, most, len, within) in
    false≢true (sym (stops (omega (arith, many, most, len)))
    ∙ ap (λ k. test (get_or xs k d)) (sym place)
    ∙ ap test (sym (at (length xs - count) (omega (arith, many, most, len))))
    ∙ prefix_len_passes test (reverse xs) (length xs - count) d many) in
    omega (arith, length-prefix_len test (reverse xs), least, no_more, within)
