use Rattle.std.proofs.Common.{arith}
use Rattle.data_encoding.proofs.decoding.PlacingLemmas.{ends-further}
use Rattle.data_encoding.proofs.decode.packed.span_before.Goals as goal

pub returns-clause-ends : goal.returns-clause-ends
returns-clause-ends c = λ base held many.
    let skipped = c.skip_sixteens-end.ensures in
    let same = skipped.kept base held in
    ends-further skipped.within c.span_before_some.ensures.within
    (c.span_before_some.ensures.ends base held (omega (arith, same, many, skipped.few)))
    skipped.few same
