use Rattle.std.proofs.Common.{ap, ◌∙◌}
use Rattle.data_encoding.specs.Fields.{Fields}
use Rattle.data_encoding.specs.Specification.{specified}
use Rattle.conformance.proofs.BuiltLemmas.{symbols-built}
use Rattle.conformance.proofs.callers.symbols_of.Goals as goal

pub returns-in_ok-specification-in-Ok-clause-same :
    goal.returns-in_ok-specification-in-Ok-clause-same
returns-in_ok-specification-in-Ok-clause-same c =
    ap (λ (fields : Fields). fields.symbols) c.in_ok-specification-in-Ok.ensures
    ∙ symbols-built (specified c.args.specification.now) c.in-Ok.encoding c.in-Ok.ensures.is_built
