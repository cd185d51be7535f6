-- A text that is cut before a kept byte.
use Rattle.std.proofs.Common.{◌≡◌, ℕ, zero, suc, ◌+◌, ◌-◌, ◌<◌, ◌≤◌, Bool, true, false, not, cond, List, [], ◌∷◌, ◌++◌, length, take, drop, refl, ap, ◌∙◌, arith}
use Rattle.data_encoding_meaning.specs.text.Base.{Base, meaning, is_ignored}
use Rattle.data_encoding_meaning.specs.text.Grammar.{Positioned, kept, kept_in, kept_from}
use Rattle.data_encoding_meaning.specs.decoding.Fault.{position_of}
use Rattle.data_encoding_meaning.proofs.grammar.KeptLemmas.{kept-more, kept_in-within}

-- If a piece is cut before a kept byte, the ones before it are kept.
abbrev IsCut : Base → ℕ → List ℕ → ℕ → ℕ → Type 0
IsCut base start part index count =
    index < length (kept_in base start part)
    → start + count ≡ position_of (kept_in base start part) index
    → kept_in base start (take count part) ≡ take index (kept_in base start part)

module _ (base : Base) (start byte : ℕ) (part : List ℕ)
    (others : (index count : ℕ) → IsCut base (start + 1) part index count) where
  abbrev rest : List Positioned
  rest = kept_in base (start + 1) part

  abbrev here : Positioned
  here = record { position = start; byte = byte }

  -- of the others, none is at this position
  past : (index : ℕ) → index < length rest → start ≡ position_of rest index → ⊥
  past index inside is =
      let bounds = kept_in-within base (start + 1) (start + 1 + length part) part index
      (omega arith) inside in
      absurd (omega (arith, bounds.0, is))

  cut_by : (b : Bool) → not (is_ignored (meaning base byte)) ≡ b → (index count : ℕ)
      → index < length (cond b (here ∷ rest) rest)
      → start + count ≡ position_of (cond b (here ∷ rest) rest) index
      → kept_in base start (take count (byte ∷ part)) ≡ take index (cond b (here ∷ rest) rest)
  cut_by false keeps index zero inside is = absurd (past index inside (omega (arith, is)))
  cut_by false keeps index (suc count) inside is =
      rw keeps (others index count inside (omega (arith, is)))
  cut_by true keeps zero zero inside is = refl
  cut_by true keeps zero (suc count) inside is = absurd (omega (arith, is))
  cut_by true keeps (suc index) zero inside is =
      absurd (past index (omega (arith, inside)) (omega (arith, is)))
  cut_by true keeps (suc index) (suc count) inside is =
      rw keeps
      (ap (λ l. here ∷ l) (others index count (omega (arith, inside)) (omega (arith, is))))

kept_in-cut : (base : Base) (start : ℕ) (part : List ℕ) (index count : ℕ)
    → IsCut base start part index count
kept_in-cut base start [] index count inside is = absurd (omega (arith, inside))
kept_in-cut base start (byte ∷ part) index count inside is =
    cut_by base start byte part (kept_in-cut base (start + 1) part)
    (not (is_ignored (meaning base byte))) refl index count inside is

-- the same for the rest of a text
pub kept-cut : (base : Base) (read : ℕ) (text : List ℕ) → read ≤ length text → (index stop : ℕ)
    → read ≤ stop → stop ≤ length text → index < length (kept_from base read text)
    → stop ≡ position_of (kept_from base read text) index
    → kept base (take stop text)
    ≡ kept base (take read text) ++ take index (kept_from base read text)
kept-cut base read text within index stop after below inside is =
    kept-more base read text within stop after below
    ∙ ap (λ l. kept base (take read text) ++ l)
    (kept_in-cut base read (drop read text) index (stop - read) inside (omega (arith, is, after)))
