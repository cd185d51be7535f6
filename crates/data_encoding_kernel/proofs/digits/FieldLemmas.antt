-- Fields of a number, masked and combined by OR.
use Rattle.std.proofs.Common.{◌≡◌, ℕ, ◌+◌, ◌-◌, ◌*◌, ◌^◌, ◌<◌, List, [], ◌∷◌, length, map, replicate, bit_and, bit_or, min, max, refl, sym, ap, ◌∙◌, inl, inr, arith}
use Rattle.std.proofs.Math.Nat.{zero-mul}
use Rattle.std.proofs.lemmas.Bool.{cases_lt}
use Rattle.std.proofs.lemmas.Nat.{and_le_l, or_lt}
use Rattle.std.proofs.lemmas.Nat.Bits.{bit_at_and, bit_at_or, bit_at_cat_low, bit_at_cat_high, same_from_bits}
use Rattle.std.specs.Int.{bit_at}
use Rattle.std.specs.List.{AllByRecursion}
use Rattle.std.specs.Simd.Lanes.{number_l}

sum-turned : (k a b : ℕ) → a + 2 ^ k * b ≡ b * 2 ^ k + a
sum-turned k a b = omega arith

-- an operation on bits acts on the lower and the upper bits of a number separately
module _ (op bit : ℕ → ℕ → ℕ) (k : ℕ)
    (bits : (a b i : ℕ) → bit_at (op a b) i ≡ bit (bit_at a i) (bit_at b i))
    (fits : (a b : ℕ) → a < 2 ^ k → b < 2 ^ k → op a b < 2 ^ k) where
  parts : (a b m n : ℕ) → a < 2 ^ k → m < 2 ^ k
      → op (b * 2 ^ k + a) (n * 2 ^ k + m) ≡ op b n * 2 ^ k + op a m
  parts a b m n p q =
      same_from_bits _ _ (λ i. bits _ _ i ∙ elim (cases_lt i k) [
        | inl l ↦
            (λ j. bit (bit_at_cat_low b k a i l j) (bit_at_cat_low n k m i l j))
            ∙ sym (bit_at_cat_low (op b n) k (op a m) i l ∙ bits a m i)
        | inr g ↦
            (λ j. bit (bit_at_cat_high b k a i p g j) (bit_at_cat_high n k m i q g j))
            ∙ sym (bit_at_cat_high (op b n) k (op a m) i (fits a m p q) g ∙ bits b n (i - k))
      ])

  -- the same with the lower bits first
  field : (a b m n : ℕ) → a < 2 ^ k → m < 2 ^ k
      → op (a + 2 ^ k * b) (m + 2 ^ k * n) ≡ op a m + 2 ^ k * op b n
  field a b m n p q =
      (λ j. op (sum-turned k a b j) (sum-turned k m n j)) ∙ parts a b m n p q
      ∙ sym (sum-turned k (op a m) (op b n))

and_field : (k a b m n : ℕ) → a < 2 ^ k → m < 2 ^ k
    → bit_and (a + 2 ^ k * b) (m + 2 ^ k * n) ≡ bit_and a m + 2 ^ k * bit_and b n
and_field k = field bit_and min k bit_at_and (λ a b p q. omega (arith, p, and_le_l a b))

or_field : (k a b m n : ℕ) → a < 2 ^ k → m < 2 ^ k
    → bit_or (a + 2 ^ k * b) (m + 2 ^ k * n) ≡ bit_or a m + 2 ^ k * bit_or b n
or_field k = field bit_or max k bit_at_or (or_lt k)

-- a mask with the same bits at each field masks each field
pub and_fields : (k mask : ℕ) → mask < 2 ^ k → (fields : List ℕ)
    → AllByRecursion (λ field. field < 2 ^ k) fields
    → bit_and (number_l (2 ^ k) fields) (number_l (2 ^ k) (replicate (length fields) mask))
    ≡ number_l (2 ^ k) (map (λ field. bit_and field mask) fields)
and_fields k mask q [] h = refl
and_fields k mask q (x ∷ xs) h =
    and_field k x (number_l (2 ^ k) xs) mask (number_l (2 ^ k) (replicate (length xs) mask)) h.0 q
    ∙ ap (λ n. bit_and x mask + 2 ^ k * n) (and_fields k mask q xs h.1)

-- and the or of two numbers, each made field by field, is made so too
pub or_fields : (k : ℕ) (f g : ℕ → ℕ) (P : ℕ → Type 0) → ((x : ℕ) → P x → f x < 2 ^ k)
    → ((x : ℕ) → P x → g x < 2 ^ k) → (fields : List ℕ) → AllByRecursion P fields
    → bit_or (number_l (2 ^ k) (map f fields)) (number_l (2 ^ k) (map g fields))
    ≡ number_l (2 ^ k) (map (λ x. bit_or (f x) (g x)) fields)
or_fields k f g P p q [] h = refl
or_fields k f g P p q (x ∷ xs) h =
    or_field k (f x) (number_l (2 ^ k) (map f xs)) (g x) (number_l (2 ^ k) (map g xs)) (p x h.0)
    (q x h.0)
    ∙ ap (λ n. bit_or (f x) (g x) + 2 ^ k * n) (or_fields k f g P p q xs h.1)

-- each field times a number
pub times_fields : (p times : ℕ) (fields : List ℕ)
    → number_l p fields * times ≡ number_l p (map (λ x. x * times) fields)
times_fields p times [] = zero-mul times
times_fields p times (x ∷ xs) = omega (arith, ap (λ n. p * n) (times_fields p times xs))
