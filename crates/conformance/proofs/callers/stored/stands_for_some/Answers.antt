use Rattle.std.proofs.Common.{◌≡◌, ◌↔◌, ℕ, Bool, List, Option, Some, None, IfSome, IsSome, IsTrue, is_some}
use Rattle.data_encoding.specs.Base.{Base}
use Rattle.data_encoding.specs.Fields.{IsSpecified}
use Rattle.data_encoding.specs.Layout.{layout}
use Rattle.data_encoding.specs.OneLayout.{IsLayout, Layouts}
use Rattle.conformance.proofs.callers.stored.stands_for_some.Goals as goal

-- there is one if and only if the rules hold
some_by_rules : (found : Option Base) (bytes : List ℕ) (is : Bool) → is ≡ is_some found → Layouts
    → IfSome found IsSpecified → IfSome found (λ base. layout base ≡ bytes)
    → ((base : Base) → IsSpecified base → layout base ≡ bytes → IsSome found)
    → IsTrue is ↔ IsLayout bytes
some_by_rules (Some base) bytes is e rules specified reads accepts =
    (λ some. (rules bytes).0 (base, specified, reads), λ rule. e)
some_by_rules None bytes is e rules specified reads accepts = (
  λ some. cc,
  λ rule. let has = (rules bytes).1 rule in let some = accepts has.0 has.1 has.2 in cc,
)

pub returns : goal.returns
returns c =
    some_by_rules c.internal_new.result c.args.bytes.now c.is_some.result c.is_some.ensures
    c.one_layout.ensures.rules c.internal_new.ensures.base c.internal_new.ensures.layout
    c.internal_new.ensures.accepted
