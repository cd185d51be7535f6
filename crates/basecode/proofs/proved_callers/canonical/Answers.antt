use Rattle.std.proofs.Common.{◌≡◌, ◌∙◌, [], rules, sym}
use Rattle.std.proofs.lemmas.Slice.Eq.{bytes_eq-Decides}
use Rattle.basecode.proofs.ArgumentLemmas.{canonical_answered, line_read}
use Rattle.basecode.proofs.proved_callers.canonical.Goals as goal

pub returns : goal.returns
returns c = λ base known.
    let line = c.in_ok-outcome.outcome.output.items in
    let nothing : c.new.result.items ≡ [] = search rules in
    let done = rw nothing at (c.in_ok-outcome.ensures.done (search rules)) in
    let read = line_read base line (canonical_answered _ base known _ _ line done) in
    let first = c.as_slice.ensures.value in
    let second = c.as_slice-2.ensures in
    let decides = bytes_eq-Decides c.as_slice.result.now c.as_slice-2.result.now in (
      λ equal. read.0 (sym first ∙ decides.0 (sym c.eq.ensures ∙ equal) ∙ second),
      λ is. c.eq.ensures ∙ decides.1 (first ∙ read.1 is ∙ sym second),
    )
