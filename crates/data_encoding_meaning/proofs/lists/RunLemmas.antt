-- Lists cut into runs.
use Rattle.std.proofs.Common.{◌≡◌, ℕ, zero, suc, ◌+◌, ◌-◌, ◌*◌, ◌/◌, ◌%◌, ◌<◌, ◌≤◌, List, [], ◌∷◌, ◌++◌, length, map, take, drop, refl, sym, ap, ◌∙◌, arith, length-append, append-nil, append_assoc, take-append-drop, length-take, length-take-le, subst, ⊎_elim}
use Rattle.std.proofs.Math.Nat.{mod-eq-sub-mod, mod-eq_of_lt, add-div_left, add-mul, div-eq_of_lt, div-eq_of_lt-le, div-mul-le_self, lt-div-mul-add, mul-le-mul_right, zero-mul, suc-mul}
use Rattle.std.proofs.lemmas.List.{take_at, drop_at, take_all, drop_all, length-map, take-map, drop-map, length-drop, take-append-le, drop-append-le}
use Rattle.std.proofs.lemmas.Nat.{div_below, le-div}
use Rattle.std.proofs.lemmas.Bool.{cases_lt}
use Rattle.std.proofs.lemmas.Grind.{div_ceil_times}
use Rattle.std.specs.Int.{div_ceil}
use Rattle.std.specs.List.{AllByRecursion}
use Rattle.std.specs.Prelude.{flat_map}
use Rattle.std.specs.Simd.{first_chunks}
use Rattle.data_encoding_meaning.specs.text.Bits.{runs}
use Rattle.data_encoding_meaning.proofs.lists.EachLemmas.{all_joined, all_parts}

-- how many runs there are
abbrev pub run_count : ℕ → ℕ → ℕ
run_count size count = (count + (size - 1)) / size

run_count-add : (size n : ℕ) → 0 < size → run_count size (size + n) ≡ suc (run_count size n)
run_count-add size n h =
    ap (λ k. k / size) (omega arith) ∙ add-div_left (n + (size - 1)) h ∙ omega arith

pub run_count-short : (size n : ℕ) → 0 < n → n ≤ size → run_count size n ≡ 1
run_count-short size n h k =
    div-eq_of_lt-le size (omega arith) (omega arith)

-- each of them begins before the end, and together they reach it
pub run-before : (size n i : ℕ) → 0 < size → i < run_count size n → i * size < n
run-before size n i h k =
    let up : (i + 1) * size ≤ run_count size n * size = mul-le-mul_right size (omega (arith, k)) in
    omega (arith, up, add-mul i 1 size, div-mul-le_self (n + (size - 1)) size, h)

pub runs-reach : (size n : ℕ) → 0 < size → n ≤ run_count size n * size
runs-reach size n h =
    let past : n + (size - 1) < run_count size n * size + size = lt-div-mul-add h in
    omega (arith, past, h)

-- the same by division that rounds up
pub div_ceil-runs : (size n : ℕ) → 0 < size → div_ceil n size ≡ run_count size n
div_ceil-runs size n h =
    let bounds = div_ceil_times n size h in
    sym (div-eq_of_lt-le {k = div_ceil n size} size {m = n + (size - 1)}
    (omega (arith, bounds.1, h))
    (omega (arith, bounds.0, h, add-mul (div_ceil n size) 1 size)))

pub run_count-few : (size n k : ℕ) → 0 < size → n ≤ k * size → run_count size n ≤ k
run_count-few size n k h few =
    omega (arith, div_below (n + (size - 1)) size (suc k) h (omega (arith, suc-mul k size)))

pub run_count-whole : (size k : ℕ) → 0 < size → run_count size (k * size) ≡ k
run_count-whole size k h =
    div-eq_of_lt-le {k = k} size {m = k * size + (size - 1)} (omega arith)
    (omega (arith, h, add-mul k 1 size))

pub run_count-some : (size n : ℕ) → 0 < size → 0 < n → 0 < run_count size n
run_count-some size n h some = le-div 1 (n + (size - 1)) size h (omega arith)

-- an induction over runs
pub by_runs : {X : Type 0} (size : ℕ) → 0 < size → (P : List X → Type 0) → P []
    → ((xs : List X) → 0 < length xs → P (drop size xs) → P xs) → (xs : List X) → P xs
by_runs {X} size h P none next xs = within (length xs) xs (omega arith) where
  within : (n : ℕ) (xs : List X) → length xs ≤ n → P xs
  within n [] few = none
  within zero (x ∷ xs) few = absurd (omega arith)
  within (suc n) (x ∷ xs) few =
      next (x ∷ xs) (omega arith)
      (within n (drop size (x ∷ xs)) (simp length-drop (omega arith)))

pub runs-nil : {X : Type 0} (size : ℕ) → 0 < size → runs {X = X} size [] ≡ []
runs-nil size h = ap (λ k. first_chunks size k []) (div-eq_of_lt (omega arith))

-- whole runs do not depend on what follows them
pub first_chunks-append : {X : Type 0} (size n : ℕ) (xs ys : List X) → size * n ≤ length xs
    → first_chunks size n (xs ++ ys) ≡ first_chunks size n xs
first_chunks-append size zero xs ys h = refl
first_chunks-append size (suc n) xs ys h =
    let first = take-append-le size xs ys (omega arith) in
    let others = drop-append-le size xs ys (omega arith) in
    let len = length-drop size xs in
    (λ i. first i ∷ first_chunks size n (others i))
    ∙ ap (λ l. take size xs ∷ l) (first_chunks-append size n (drop size xs) ys (omega arith))

-- a whole run, and the runs of the others
pub runs-append : {X : Type 0} (size : ℕ) (xs ys : List X) → 0 < size → length xs ≡ size
    → runs size (xs ++ ys) ≡ xs ∷ runs size ys
runs-append size xs ys h e =
    let count : run_count size (length (xs ++ ys)) ≡ suc (run_count size (length ys)) =
    ap (run_count size) (length-append xs ys ∙ ap (λ k. k + length ys) e)
    ∙ run_count-add size (length ys) h in
    let front = take_at xs ys size e in
    let back = drop_at xs ys size e in
    ap (λ k. first_chunks size k (xs ++ ys)) count
    ∙ (λ i. front i ∷ first_chunks size (run_count size (length ys)) (back i))

-- a last run
pub runs-short : {X : Type 0} (size : ℕ) (xs : List X) → 0 < length xs → length xs ≤ size
    → runs size xs ≡ xs ∷ []
runs-short size xs h k =
    ap (λ n. first_chunks size n xs) (run_count-short size (length xs) h k)
    ∙ ap (λ l. l ∷ []) (take_all size xs k)

-- the first run of a list that is not empty
pub runs-first : {X : Type 0} (size : ℕ) (xs : List X) → 0 < size → 0 < length xs
    → runs size xs ≡ take size xs ∷ runs size (drop size xs)
runs-first {X} size xs h k =
    ⊎_elim
    (λ (short : length xs < size).
    let all = take_all size xs (omega arith) in
    let none = drop_all size xs (omega arith) in
    runs-short size xs k (omega arith)
    ∙ (λ i. sym all i ∷ (sym (runs-nil {X = X} size h) ∙ ap (runs size) (sym none)) i))
    (λ (long : size ≤ length xs).
    ap (runs size) (sym (take-append-drop size xs))
    ∙ runs-append size (take size xs) (drop size xs) h (length-take-le size xs long))
    (cases_lt (length xs) size)

-- no run is empty, nor longer than the size
pub few_runs : {X : Type 0} (size : ℕ) (xs : List X) → 0 < size
    → AllByRecursion (λ (run : List X). (0 < length run) × (length run ≤ size)) (runs size xs)
few_runs {X} size xs h =
    let AreFew : List (List X) → Type 0 =
    AllByRecursion (λ (run : List X). (0 < length run) × (length run ≤ size)) in
    by_runs size h (λ l. AreFew (runs size l)) (subst AreFew (sym (runs-nil {X = X} size h)) tt)
    (λ l some others.
    let front = length-take size l in
    subst AreFew (sym (runs-first size l h some))
    ((omega (arith, front, h), omega (arith, front)), others))
    xs

-- whole runs, and then the runs of the others
pub runs-join : {X : Type 0} (size : ℕ) (xs ys : List X) → 0 < size → length xs % size ≡ 0
    → runs size (xs ++ ys) ≡ runs size xs ++ runs size ys
runs-join {X} size xs ys h =
    by_runs size h
    (λ l. length l % size ≡ 0 → runs size (l ++ ys) ≡ runs size l ++ runs size ys)
    (λ e. ap (λ gs. gs ++ runs size ys) (sym (runs-nil {X = X} size h)))
    (λ l some others e.
    let never : length l < size → ⊥ = λ short. omega (arith, mod-eq_of_lt short, e, some) in
    let long : size ≤ length l = omega arith in
    let front = take size l in
    let back = drop size l in
    let back_whole : length back % size ≡ 0 =
    ap (λ n. n % size) (length-drop size l) ∙ sym (mod-eq-sub-mod long) ∙ e in
    ap (λ k. runs size (k ++ ys)) (sym (take-append-drop size l))
    ∙ ap (runs size) (append_assoc front back ys)
    ∙ runs-append size front (back ++ ys) h (length-take-le size l long)
    ∙ ap (λ gs. front ∷ gs) (others back_whole)
    ∙ ap (λ gs. gs ++ runs size ys) (sym (runs-first size l h some)))
    xs

pub runs-map : {X Y : Type 0} (size : ℕ) (f : X → Y) (xs : List X) → 0 < size
    → runs size (map f xs) ≡ map (map f) (runs size xs)
runs-map {X} {Y} size f xs h =
    by_runs size h (λ l. runs size (map f l) ≡ map (map f) (runs size l))
    (runs-nil {X = Y} size h ∙ ap (map (map f)) (sym (runs-nil {X = X} size h)))
    (λ l some others.
    runs-first size (map f l) h (omega (arith, length-map l f))
    ∙ (λ i. take-map f size l i ∷ runs size (drop-map f size l i))
    ∙ ap (λ gs. map f (take size l) ∷ gs) others
    ∙ ap (map (map f)) (sym (runs-first size l h some)))
    xs

-- pieces of the size of a run are its runs
pub runs-flat_map : {X Y : Type 0} (size : ℕ) (f : X → List Y) (xs : List X) → 0 < size
    → ((x : X) → length (f x) ≡ size) → runs size (flat_map f xs) ≡ map f xs
runs-flat_map {X} {Y} size f [] h e = runs-nil {X = Y} size h
runs-flat_map size f (x ∷ xs) h e =
    runs-append size (f x) (flat_map f xs) h (e x) ∙ ap (λ l. f x ∷ l) (runs-flat_map size f xs h e)

-- the runs joined are the list
pub flat_map-runs : {X : Type 0} (size : ℕ) (xs : List X) → 0 < size
    → flat_map (λ run. run) (runs size xs) ≡ xs
flat_map-runs {X} size xs h =
    let join : List (List X) → List X = flat_map (λ run. run) in
    by_runs size h (λ l. join (runs size l) ≡ l) (ap join (runs-nil {X = X} size h))
    (λ l some others.
    ap join (runs-first size l h some) ∙ ap (λ rest. take size l ++ rest) others
    ∙ take-append-drop size l)
    xs

length-first_chunks : {X : Type 0} (size k : ℕ) (xs : List X) → length (first_chunks size k xs) ≡ k
length-first_chunks size zero xs = refl
length-first_chunks size (suc k) xs = ap (λ n. suc n) (length-first_chunks size k (drop size xs))

pub length-runs : {X : Type 0} (size : ℕ) (xs : List X)
    → length (runs size xs) ≡ run_count size (length xs)
length-runs size xs = length-first_chunks size (run_count size (length xs)) xs

length-each_ended : {X : Type 0} (end : List X) (parts : List (List X))
    → length (flat_map (λ part. part ++ end) parts)
    ≡ length (flat_map (λ part. part) parts) + length parts * length end
length-each_ended end [] = sym (zero-mul (length end)) ∙ omega arith
length-each_ended end (part ∷ parts) =
    omega (
      arith,
      length-append (part ++ end) (flat_map (λ p. p ++ end) parts),
      length-append part end,
      length-append part (flat_map (λ p. p) parts),
      length-each_ended end parts,
    )

-- the runs, each followed by an end
pub length-ended : {X : Type 0} (size : ℕ) (end xs : List X) → 0 < size
    → length (flat_map (λ run. run ++ end) (runs size xs))
    ≡ length xs + run_count size (length xs) * length end
length-ended size end xs h =
    length-each_ended end (runs size xs)
    ∙ (λ i. length (flat_map-runs size xs h i) + length-runs size xs i * length end)

-- the only run of a short list
pub ended-short : {X : Type 0} (size : ℕ) (end xs : List X) → 0 < length xs → length xs ≤ size
    → flat_map (λ run. run ++ end) (runs size xs) ≡ xs ++ end
ended-short size end xs some few =
    ap (flat_map (λ run. run ++ end)) (runs-short size xs some few) ∙ append-nil (xs ++ end)

pub all_ended : {X : Type 0} (P : X → Type 0) (end : List X) → AllByRecursion P end
    → (size k : ℕ) (xs : List X) → AllByRecursion P xs
    → AllByRecursion P (flat_map (λ run. run ++ end) (first_chunks size k xs))
all_ended P end ends size zero xs all = tt
all_ended P end ends size (suc k) xs all =
    let parts = all_parts P (take size xs) (drop size xs)
    (subst (AllByRecursion P) (sym (take-append-drop size xs)) all) in
    all_joined P (take size xs ++ end)
    (flat_map (λ run. run ++ end) (first_chunks size k (drop size xs)))
    (all_joined P (take size xs) end parts.0 ends)
    (all_ended P end ends size k (drop size xs) parts.1)
