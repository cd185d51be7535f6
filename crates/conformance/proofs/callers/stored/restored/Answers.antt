use Rattle.std.proofs.Common.{◌≡◌, List, ℕ, Option, Some, None, IfSome, IsSome, sym, ap, ◌∙◌}
use Rattle.data_encoding.specs.Base.{Base}
use Rattle.data_encoding.specs.Fields.{IsSpecified}
use Rattle.data_encoding.specs.Layout.{layout}
use Rattle.data_encoding.specs.OneLayout.{OneLayout}
use Rattle.conformance.proofs.callers.stored.restored.Goals as goal

-- the base is found again from its layout
same_again : (found : Option Base) (base : Base) (bytes : List ℕ) → OneLayout → IsSpecified base
    → bytes ≡ layout base → IfSome found IsSpecified
    → IfSome found (λ other. layout other ≡ bytes) → IsSome found → found ≡ Some base
same_again (Some other) base bytes one is same other_is reads some =
    ap (λ b. Some b) (one other base other_is is (reads ∙ same))
same_again None base bytes one is same other_is reads some = cc

pub returns : goal.returns
returns c =
    let same = c.as_slice.ensures.value ∙ c.internal_implementation.ensures in
    let is = c.bit_width-width.ensures.base in
    same_again c.internal_new.result c.args.encoding.now c.as_slice.result.now
    c.one_layout.ensures.one is same c.internal_new.ensures.base c.internal_new.ensures.layout
    (c.internal_new.ensures.accepted c.args.encoding.now is (sym same))
