use Rattle.std.proofs.Common.{sym, ap, ◌∙◌}
use Rattle.data_encoding.specs.Base.{is_ignored}
use Rattle.conformance.proofs.callers.keys.is_empty_text.Goals as goal

pub returns-clause-texts : goal.returns-clause-texts
returns-clause-texts c = λ is.
    (c.not_canonical.ensures c.args.encoding.now c.bit_width.ensures.base).0 c.args.byte
    (sym (c.is_ignored.ensures ∙ ap is_ignored c.interpret_byte.ensures) ∙ is)
