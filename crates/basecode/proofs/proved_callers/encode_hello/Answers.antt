use Rattle.std.proofs.Common.{rules, ◌≡◌, ◌++◌, ◌∙◌, codes}
use Rattle.basecode.proofs.Conclusions.{encoded, hello}
use Rattle.basecode.proofs.proved_callers.encode_hello.Goals as goal

pub returns : goal.returns
returns c =
    let sign : c.in_ok-vec.field-0.items ≡ codes "> " = search rules in
    encoded _ _ _ _ _ hello.0 hello.1 (c.in_ok-outcome.ensures.done (search rules))
    ∙ (λ i. sign i ++ hello.2 i)
