-- A list of which some is overwritten.
use Rattle.std.proofs.Common.{◌≡◌, ℕ, ◌+◌, ◌-◌, ◌≤◌, List, ◌++◌, length, take, drop, sym, ap, ◌∙◌, arith, length-append, length-take-le}
use Rattle.std.proofs.lemmas.List.{append-nil, drop_all, drop_at, length-drop, take_rest}
use Rattle.std.proofs.Math.Seq.{take-append-add}
use borrow.Rule.Slice.PartMut.{put_mid}

pub length-put_mid : {X : Type 0} (a k : ℕ) (xs ys : List X) → a + k ≤ length xs
    → length ys ≡ k → length (put_mid a k xs ys) ≡ length xs
length-put_mid a k xs ys h e =
    length-append (take a xs) (ys ++ drop k (drop a xs))
    ∙ omega (
      arith,
      length-append ys (drop k (drop a xs)),
      length-take-le a xs (omega (arith, h)),
      length-drop k (drop a xs),
      length-drop a xs,
      h,
      e,
    )

-- the end of a list is overwritten
pub put_mid-end : {X : Type 0} (a : ℕ) (xs ys : List X)
    → put_mid a (length xs - a) xs ys ≡ take a xs ++ ys
put_mid-end a xs ys =
    let none = drop_all (length xs - a) (drop a xs) (omega (arith, length-drop a xs)) in
    ap (λ l. take a xs ++ (ys ++ l)) none ∙ ap (λ l. take a xs ++ l) (append-nil ys)

-- what follows a prefix is what was written there
pub drop-put_mid_at : {X : Type 0} (a : ℕ) (xs ys : List X) → a ≤ length xs
    → drop a (put_mid a (length xs - a) xs ys) ≡ ys
drop-put_mid_at a xs ys h =
    ap (drop a) (put_mid-end a xs ys) ∙ drop_at (take a xs) ys a (length-take-le a xs h)

-- a list with its rest overwritten
abbrev pub rewritten : {X : Type 0} → ℕ → List X → List X → List X
rewritten a xs ys = put_mid a (length xs - a) xs ys

module _ {X : Type 0} (a : ℕ) (xs ys : List X) (within : a ≤ length xs) where
  pub take-rewritten : (count : ℕ)
      → take (a + count) (rewritten a xs ys) ≡ take a xs ++ take count ys
  take-rewritten count =
      ap (λ n. take (n + count) (rewritten a xs ys)) (sym (length-take-le a xs within))
      ∙ ap (take (length (take a xs) + count)) (put_mid-end a xs ys)
      ∙ take-append-add (take a xs) ys count

  pub length-rewritten : length (rewritten a xs ys) ≡ a + length ys
  length-rewritten =
      omega (
        arith,
        ap length (put_mid-end a xs ys),
        length-append (take a xs) ys,
        length-take-le a xs within,
      )

  pub length-rewritten_same : length ys ≡ length (take (length xs - a) (drop a xs))
      → length (rewritten a xs ys) ≡ length xs
  length-rewritten_same len =
      omega (arith, length-rewritten, within, len, ap length (take_rest xs a), length-drop a xs)
