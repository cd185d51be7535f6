-- A list of bytes in lines, each followed by CR LF.
use Rattle.std.proofs.Common.{◌≡◌, ℕ, zero, suc, ◌+◌, ◌-◌, ◌*◌, ◌/◌, ◌<◌, ◌≤◌, Bool, true, false, List, [], ◌∷◌, ◌++◌, cond, length, filter, take, drop, take-add, refl, sym, ap, ◌∙◌, arith, ⊎_elim}
use Rattle.std.proofs.Math.Nat.{add-div_left, div-eq_of_lt, lt-div-mul-add, suc-mul, zero-mul}
use Rattle.std.specs.Prelude.{flat_map}
use Rattle.std.specs.Simd.{first_chunks}
use Rattle.std.proofs.lemmas.List.{append-nil, length-drop, take_all}
use Rattle.std.proofs.lemmas.Bool.{cases_lt}
use Rattle.std.proofs.lemmas.List.Elements.{filter-append}
use Rattle.data_encoding.specs.Bits.{runs}

-- a run, and its line end
abbrev pub ended : List ℕ → List ℕ
ended run = run ++ 13 ∷ 10 ∷ []

-- the number of runs of one byte or more
count-more : (size n : ℕ) → 0 < size → 0 < n
    → (n + (size - 1)) / size ≡ suc ((n - size + (size - 1)) / size)
count-more size n some more =
    ⊎_elim {C = (n + (size - 1)) / size ≡ suc ((n - size + (size - 1)) / size)}
    (λ (short : n < size).
    let one : (n - 1) / size ≡ 0 = div-eq_of_lt (omega (arith, short)) in
    let none : (n - size + (size - 1)) / size ≡ 0 =
    div-eq_of_lt (omega (arith, short, some)) in
    ap (λ k. k / size) (omega (arith, some, more)) ∙ add-div_left (n - 1) some
    ∙ omega (arith, one, none))
    (λ (long : size ≤ n).
    ap (λ k. k / size) (omega (arith, some, long)) ∙ add-div_left (n - size + (size - 1)) some
    ∙ omega arith)
    (cases_lt n size)

-- the first run, and the others
pub runs-first : (size : ℕ) (xs : List ℕ) → 0 < size → 0 < length xs
    → runs size xs ≡ take size xs ∷ runs size (drop size xs)
runs-first size xs some more =
    ap (λ k. first_chunks size k xs) (count-more size (length xs) some more)
    ∙ ap (λ n. take size xs ∷ first_chunks size ((n + (size - 1)) / size) (drop size xs))
    (sym (length-drop size xs))

pub runs-none : (size : ℕ) (xs : List ℕ) → 0 < size → length xs ≡ 0 → runs size xs ≡ []
runs-none size xs some none =
    ap (λ k. first_chunks size k xs)
    (div-eq_of_lt (omega (arith, some, none)))

-- the runs joined
first_chunks-joined : (size count : ℕ) (xs : List ℕ)
    → flat_map (λ run. run) (first_chunks size count xs) ≡ take (count * size) xs
first_chunks-joined size zero xs = sym (ap (λ n. take n xs) (zero-mul size))
first_chunks-joined size (suc count) xs =
    ap (λ l. take size xs ++ l) (first_chunks-joined size count (drop size xs))
    ∙ sym (take-add size (count * size) xs)
    ∙ ap (λ n. take n xs) (omega (arith, suc-mul count size))

runs-joined : (size : ℕ) (xs : List ℕ) → 0 < size
    → flat_map (λ run. run) (runs size xs) ≡ xs
runs-joined size xs some =
    let count = (length xs + (size - 1)) / size in
    let reach : length xs + (size - 1) < count * size + size = lt-div-mul-add some in
    first_chunks-joined size count xs ∙ take_all (count * size) xs (omega (arith, reach, some))

-- a test that drops CR and LF
module _ (keeps : ℕ → Bool) (none_of_return : keeps 13 ≡ false) (none_of_feed : keeps 10 ≡ false)
  where
    filter-ended : (run : List ℕ) → filter keeps (ended run) ≡ filter keeps run
    filter-ended run =
        filter-append keeps run (13 ∷ 10 ∷ [])
        ∙ ap (λ b. filter keeps run
        ++ cond b (13 ∷ cond (keeps 10) (10 ∷ []) []) (cond (keeps 10) (10 ∷ []) []))
        none_of_return
        ∙ ap (λ b. filter keeps run ++ cond b (10 ∷ []) []) none_of_feed
        ∙ append-nil (filter keeps run)

    -- line ends add no kept bytes to the runs
    filter-lines : (runs : List (List ℕ))
        → filter keeps (flat_map ended runs) ≡ filter keeps (flat_map (λ run. run) runs)
    filter-lines [] = refl
    filter-lines (run ∷ others) =
        filter-append keeps (ended run) (flat_map ended others)
        ∙ (λ i. filter-ended run i ++ filter-lines others i)
        ∙ sym (filter-append keeps run (flat_map (λ l. l) others))

-- kept bytes are kept again
filter-head : (keeps : ℕ → Bool) (x : ℕ) (xs : List ℕ) (b : Bool) → keeps x ≡ b
    → filter keeps xs ≡ xs → filter keeps (cond b (x ∷ xs) xs) ≡ cond b (x ∷ xs) xs
filter-head keeps x xs true is same =
    ap (λ b. cond b (x ∷ filter keeps xs) (filter keeps xs)) is ∙ ap (λ l. x ∷ l) same
filter-head keeps x xs false is same = same

filter-twice : (keeps : ℕ → Bool) (xs : List ℕ)
    → filter keeps (filter keeps xs) ≡ filter keeps xs
filter-twice keeps [] = refl
filter-twice keeps (x ∷ xs) =
    filter-head keeps x (filter keeps xs) (keeps x) refl (filter-twice keeps xs)

-- the kept bytes of a list, in lines, are the kept bytes of the list
pub kept-lines : (keeps : ℕ → Bool) → keeps 13 ≡ false → keeps 10 ≡ false
    → (size : ℕ) (xs : List ℕ) → 0 < size
    → filter keeps (flat_map ended (runs size (filter keeps xs))) ≡ filter keeps xs
kept-lines keeps no_return no_feed size xs some =
    filter-lines keeps no_return no_feed (runs size (filter keeps xs))
    ∙ ap (filter keeps) (runs-joined size (filter keeps xs) some) ∙ filter-twice keeps xs
