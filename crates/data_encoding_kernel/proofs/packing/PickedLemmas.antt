-- The elements of a list that flags pick.
use Rattle.std.proofs.Common.{◌≡◌, ◌+◌, ◌^◌, ℕ, zero, suc, Bool, true, false, cond, List, [], ◌∷◌, ◌++◌, length, map, drop, replicate, refl, ap, arith}
use Rattle.std.proofs.Math.Nat.{pow-succ'}
use Rattle.std.proofs.lemmas.Nat.{ones_le_self}
use Rattle.std.specs.Int.RustNames.{count_ones}
use Rattle.std.specs.List.{filter}
use Rattle.std.specs.Simd.Lanes.{mask_l}
use Rattle.std.proofs.lemmas.Simd.{ones-mask_l_cons}
use Rattle.data_encoding_kernel.specs.Ignore.{picked}

pub picked-map : (f : ℕ → ℕ) (flags : List Bool) (xs : List ℕ)
    → picked flags (map f xs) ≡ map f (picked flags xs)
picked-map f [] xs = refl
picked-map f (flag ∷ flags) [] = refl
picked-map f (false ∷ flags) (x ∷ xs) = picked-map f flags xs
picked-map f (true ∷ flags) (x ∷ xs) = ap (λ l. f x ∷ l) (picked-map f flags xs)

pub picked-append : (flags others : List Bool) (xs ys : List ℕ) → length flags ≡ length xs
    → picked (flags ++ others) (xs ++ ys) ≡ picked flags xs ++ picked others ys
picked-append [] others [] ys e = refl
picked-append [] others (x ∷ xs) ys e = absurd (omega (arith, e))
picked-append (flag ∷ flags) others [] ys e = absurd (omega (arith, e))
picked-append (false ∷ flags) others (x ∷ xs) ys e =
    picked-append flags others xs ys (omega (arith, e))
picked-append (true ∷ flags) others (x ∷ xs) ys e =
    ap (λ l. x ∷ l) (picked-append flags others xs ys (omega (arith, e)))

-- the elements that pass a test are picked by its results
pub picked-passes : (test : ℕ → Bool) (xs : List ℕ) → picked (map test xs) xs ≡ filter test xs
picked-passes test [] = refl
picked-passes test (x ∷ xs) = picked-first (test x) x (map test xs) xs (picked-passes test xs)
  where
    picked-first : (flag : Bool) (x : ℕ) (flags : List Bool) (xs : List ℕ) {ys : List ℕ}
        → picked flags xs ≡ ys
        → picked (flag ∷ flags) (x ∷ xs) ≡ cond flag (x ∷ ys) ys
    picked-first true x flags xs e = ap (λ l. x ∷ l) e
    picked-first false x flags xs e = e

-- as many as there are flags that are true
pub picked-count : (flags : List Bool) (xs : List ℕ) → length flags ≡ length xs
    → count_ones (mask_l flags) ≡ length (picked flags xs)
picked-count [] [] e = omega (arith, ones_le_self 0)
picked-count [] (x ∷ xs) e = absurd (omega (arith, e))
picked-count (flag ∷ flags) [] e = absurd (omega (arith, e))
picked-count (false ∷ flags) (x ∷ xs) e =
    omega (arith, ones-mask_l_cons false flags, picked-count flags xs (omega (arith, e)))
picked-count (true ∷ flags) (x ∷ xs) e =
    omega (arith, ones-mask_l_cons true flags, picked-count flags xs (omega (arith, e)))

-- nothing is picked of the first
pub picked-later : (first : ℕ) (flags : List Bool) (xs : List ℕ) → length flags ≡ length xs
    → picked (replicate first false ++ drop first flags) xs
    ≡ picked (drop first flags) (drop first xs)
picked-later zero flags xs e = refl
picked-later (suc first) [] [] e = refl
picked-later (suc first) [] (x ∷ xs) e = absurd (omega (arith, e))
picked-later (suc first) (flag ∷ flags) [] e = absurd (omega (arith, e))
picked-later (suc first) (flag ∷ flags) (x ∷ xs) e =
    picked-later first flags xs (omega (arith, e))

-- all are picked by as many ones
pub picked-all : (flags : List Bool) (xs : List ℕ) → length flags ≡ length xs
    → mask_l flags + 1 ≡ 2 ^ length flags → picked flags xs ≡ xs
picked-all [] [] e ones = refl
picked-all [] (x ∷ xs) e ones = absurd (omega (arith, e))
picked-all (flag ∷ flags) [] e ones = absurd (omega (arith, e))
picked-all (false ∷ flags) (x ∷ xs) e ones =
    absurd (omega (arith, ones, pow-succ' 2 (length flags)))
picked-all (true ∷ flags) (x ∷ xs) e ones =
    ap (λ l. x ∷ l)
    (picked-all flags xs (omega (arith, e)) (omega (arith, ones, pow-succ' 2 (length flags))))
