use Rattle.std.proofs.Common.{◌≡◌, ap, sym, ◌∙◌}
use Rattle.data_encoding.specs.Fields.{base_of}
use Rattle.conformance.proofs.BuiltLemmas.{same_built, no_refusal}
use Rattle.conformance.proofs.callers.is_built_again.Goals as goal

pub returns-in-Ok : goal.returns-in-Ok
returns-in-Ok c =
    let is_built =
    ap base_of c.in_ok-specification.ensures
    ∙ c.specification_again.ensures c.args.encoding.now c.bit_width-width.ensures.base in
    let same : c.in-Ok.built ≡ c.args.encoding.now =
    same_built _ _ _ c.in-Ok.ensures.is_built is_built in
    (λ equal. sym same ∙ c.eq.ensures.base.0 equal, λ is. c.eq.ensures.base.1 (same ∙ is))

pub returns : goal.returns
returns c =
    let is_built =
    ap base_of c.in_ok-specification.ensures
    ∙ c.specification_again.ensures c.args.encoding.now c.bit_width-width.ensures.base in
    absurd (no_refusal _ _ _ is_built c.in-Err.ensures.refused)
