use Rattle.std.proofs.Common.{get_or, ap, sym, ◌∙◌}
use Rattle.basecode.specs.Arguments.{ask_of}
use Rattle.basecode.proofs.command.task_named.Goals as goal

pub returns-in_default-clause-fault : goal.returns-in_default-clause-fault
returns-in_default-clause-fault c = λ word name same.
    ap (λ words. ask_of (get_or words 0 word)) (sym same) ∙ sym c.ask_named.ensures
    ∙ c.in_default.is
