use Rattle.std.proofs.Common.{sym, ap, ◌∙◌}
use Rattle.std.proofs.lemmas.Slice.Eq.{bytes_eq-Decides}
use Rattle.data_encoding.specs.Base.{Base}
use Rattle.data_encoding.specs.Layout.{layout}
use Rattle.conformance.proofs.callers.stored.is_stored_alike.Goals as goal

pub returns : goal.returns
returns c =
    let first = c.as_slice.ensures.value ∙ c.internal_implementation.ensures in
    let second = c.as_slice-2.ensures.value ∙ c.internal_implementation-2.ensures in
    let decides = bytes_eq-Decides c.as_slice.result.now c.as_slice-2.result.now in (
      λ equal.
          c.one_layout.ensures.one c.args.encoding.now c.args.other.now
          c.bit_width-width.ensures.base c.bit_width-other_width.ensures.base
          (sym first ∙ decides.0 (sym c.eq.ensures ∙ equal) ∙ second),
      λ one. c.eq.ensures ∙ decides.1 (first ∙ ap (λ (b : Base). layout b) one ∙ sym second),
    )
