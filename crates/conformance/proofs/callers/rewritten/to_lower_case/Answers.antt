use Rattle.std.proofs.Common.{◌∙◌, arith}
use Rattle.data_encoding.specs.SameMeaning.{exchanged}
use Rattle.conformance.proofs.RewrittenLemmas.{exchanged-all, exchanged-more}
use Rattle.conformance.proofs.callers.rewritten.to_lower_case.Goals as goal

pub loop-byte-preserved : goal.loop-byte-preserved
loop-byte-preserved c = λ base is.
    exchanged-more (exchanged base base) c.loop-byte.name c.args.name.now c.loop-byte.byte-index
    c.lower_byte.result (c.loop-byte.invariant base is) (omega arith)
    (c.lower_byte.ensures base is)

pub returns : goal.returns
returns c = λ base is.
    c.loop-byte.invariant base is
    ∙ exchanged-all (exchanged base base) c.loop-byte.byte-index c.args.name.now (omega arith)
