use Rattle.std.proofs.Common.{ap, ◌∙◌, arith}
use Rattle.std.proofs.lemmas.List.{take_all}
use Rattle.data_encoding.specs.SameMeaning.{kept_bytes}
use Rattle.conformance.proofs.callers.rewritten.kept.Goals as goal

pub returns : goal.returns
returns c =
    c.loop-byte.invariant
    ∙ ap (kept_bytes c.args.encoding.now)
    (take_all c.loop-byte.byte-index c.args.text.now (omega arith))
