-- What is printed for a fault.
use Rattle.std.proofs.Common.{◌≡◌, ℕ, List, [], ◌∷◌, ◌++◌, codes, Option, None, Some, IfSome, ap, subst, ◌∙◌}
use Rattle.std.proofs.lemmas.Fmt.{contents_after_writes}
use Rattle.std.specs.Fmt.{WritesText, ◌++?◌}
use Rattle.std.specs.Io.KnownBytes.{Appends}
use Rattle.basecode.specs.Faults.{line_of}

-- what was written for a fault is the line
pub line_written : (old new text : Option (List ℕ))
    → IfSome (Some (codes "basecode: ") ++? (text ++? Some (10 ∷ []))) (Appends old new)
    → IfSome text (λ shown. Appends old new (line_of shown))
line_written old new None written = tt
line_written old new (Some shown) written = written

module _ {L : Type 0} (took : L → List ℕ → L → Type 0) (held : L → List ℕ)
    (keeps : (before : L) (bytes : List ℕ) (after : L) → took before bytes after
    → held after ≡ held before ++ bytes) where
  -- What is in a buffer that was empty, and that is sent, is the line.
  pub line_sent : (before after : L) → held before ≡ []
      → (text : Option (List ℕ))
      → WritesText took before (Some (codes "basecode: ") ++? (text ++? Some (10 ∷ []))) after
      → (bytes : List ℕ) → bytes ≡ held after
      → (old new : Option (List ℕ)) → Appends old new bytes
      → IfSome text (λ shown. Appends old new (line_of shown))
  line_sent before after empty None writes bytes is old new sent = tt
  line_sent before after empty (Some shown) writes bytes is old new sent =
      let holds = contents_after_writes took held keeps before _ after writes in
      let front = ap (λ front. front ++ line_of shown) empty in
      subst (Appends old new) (is ∙ holds ∙ front) sent
