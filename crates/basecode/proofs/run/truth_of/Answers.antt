use Rattle.std.proofs.Common.{inl, inr, refl, sym, ◌∙◌}
use Rattle.std.proofs.lemmas.Bool.{false≢true}
use Rattle.basecode.proofs.run.truth_of.Goals as goal

pub returns-then-is_canonical : goal.returns-then-is_canonical
returns-then-is_canonical c =
    inl (c.is_canonical.ensures.canonical.0 c.if-is_canonical.true, refl)

pub returns-else-is_canonical : goal.returns-else-is_canonical
returns-else-is_canonical c =
    inr (
      λ is.
          false≢true (sym c.if-is_canonical.false ∙ c.is_canonical.ensures.canonical.1 is),
      refl,
    )
