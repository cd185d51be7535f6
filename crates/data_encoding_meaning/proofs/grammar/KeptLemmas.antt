-- The bytes of a text that are not ignored, piece by piece, and their positions.
use Rattle.std.proofs.Common.{◌≡◌, ℕ, ◌+◌, ◌-◌, ◌<◌, ◌≤◌, List, [], ◌∷◌, ◌++◌, length, take, drop, refl, ◌∙◌, arith, take-append-drop, length-take-le}
use Rattle.std.proofs.lemmas.List.{length-drop, length-reverse, reverse-append, drop-drop, drop_all}
use Rattle.std.proofs.lemmas.List.Elements.{filter-append, All-filter, All-from_recursion, All-get_or}
use Rattle.std.proofs.Math.Seq.{take-add}
use Rattle.std.specs.List.{AllByRecursion}
use Rattle.data_encoding_meaning.specs.text.Base.{Base}
use Rattle.data_encoding_meaning.specs.text.Grammar.{Positioned, positioned_from, kept, kept_in, kept_from}
use Rattle.data_encoding_meaning.specs.decoding.Fault.{position_of}
use Rattle.data_encoding_meaning.specs.decoding.Partial.{position_after}
use Rattle.data_encoding_meaning.proofs.grammar.PositionLemmas.{positioned_from-append}

-- the bytes of a text between two positions
abbrev pub between : ℕ → ℕ → List ℕ → List ℕ
between read stop text = take (stop - read) (drop read text)

module _ (base : Base) where
  pub kept_in-append : (start : ℕ) (xs ys : List ℕ)
      → kept_in base start (xs ++ ys) ≡ kept_in base start xs ++ kept_in base (start + length xs) ys
  kept_in-append start xs ys =
      rw (positioned_from-append start xs ys) (filter-append _ (positioned_from start xs) _)

  module _ (read : ℕ) (text : List ℕ) (within : read ≤ length text) where
    at_read : 0 + length (take read text) ≡ read
    at_read = omega (arith, length-take-le read text within)

    pub kept-split : kept base text ≡ kept base (take read text) ++ kept_from base read text
    kept-split =
        rw (take-append-drop, at_read) at (kept_in-append 0 (take read text) (drop read text))

    module _ (stop : ℕ) (after : read ≤ stop) (inside : stop ≤ length text) where
      sum : read + (stop - read) ≡ stop
      sum = omega arith

      pub length-between : length (between read stop text) ≡ stop - read
      length-between =
          length-take-le (stop - read) (drop read text) (omega (arith, length-drop read text))

      pub kept-more : kept base (take stop text)
          ≡ kept base (take read text) ++ kept_in base read (between read stop text)
      kept-more =
          rw (← (take-add read (stop - read) text), sum, at_read)
          at (kept_in-append 0 (take read text) (between read stop text))

      pub kept_from-more : kept_from base read text
          ≡ kept_in base read (between read stop text) ++ kept_from base stop text
      kept_from-more =
          let place : read + length (between read stop text) ≡ stop =
          omega (arith, length-between) in
          rw (take-append-drop, place, drop-drop, sum)
          at (kept_in-append read (between read stop text) (drop (stop - read) (drop read text)))

  -- nothing is left after all of a text
  pub nothing-left : (text : List ℕ) → kept_from base (length text) text ≡ []
  nothing-left text = rw (drop_all (length text) text (omega arith))

-- the position after the last of some is that of these and any before them
pub position_after-append : (xs ys : List Positioned) → 0 < length ys
    → position_after (xs ++ ys) ≡ position_after ys
position_after-append xs ys h =
    rw (reverse-append xs ys) (grind (arith, length-reverse ys))

pub position_after-positioned : (start : ℕ) (part : List ℕ) → 0 < length part
    → position_after (positioned_from start part) ≡ start + length part
position_after-positioned start [] h = absurd (omega (arith, h))
position_after-positioned start (byte ∷ []) h = refl
position_after-positioned start (byte ∷ other ∷ part) h =
    position_after-append (record { position = start; byte = byte } ∷ [])
    (positioned_from (start + 1) (other ∷ part))
    (omega arith)
    ∙ position_after-positioned (start + 1) (other ∷ part) (omega arith) ∙ omega arith

-- each position is in its piece
abbrev LiesWithin : ℕ → ℕ → Positioned → Type 0
LiesWithin start stop k = (start ≤ k.position) × (k.position < stop)

each_within : (start stop n : ℕ) (part : List ℕ) → start ≤ n → n + length part ≤ stop
    → AllByRecursion (LiesWithin start stop) (positioned_from n part)
each_within start stop n [] low high = tt
each_within start stop n (byte ∷ part) low high =
    ((low, omega arith), each_within start stop (n + 1) part (omega arith) (omega arith))

pub kept_in-within : (base : Base) (start stop : ℕ) (part : List ℕ) (index : ℕ)
    → start + length part ≤ stop → index < length (kept_in base start part)
    → (start ≤ position_of (kept_in base start part) index)
    × (position_of (kept_in base start part) index < stop)
kept_in-within base start stop part index h inside =
    All-get_or (LiesWithin start stop) _ index _ inside
    (All-filter _ (LiesWithin start stop) _ (All-from_recursion (LiesWithin start stop) _
    (each_within start stop start part (omega arith) h)))
