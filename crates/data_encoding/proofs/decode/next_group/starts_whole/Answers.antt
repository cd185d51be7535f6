use Rattle.std.proofs.Common.{sym, ◌∙◌, arith}
use Rattle.data_encoding_meaning.proofs.decoding.GatherLemmas.{gather-in_place}
use Rattle.data_encoding.proofs.decode.next_group.starts_whole.Goals as goal

pub loop-index-preserved : goal.loop-index-preserved
loop-index-preserved c base holds =
    let rest = c.args.rest.now in
    let index = c.loop-index.index in
    gather-in_place base rest index (omega (arith, c.loop-index-test.true, c.if-rest-symbols.false))
    (sym (c.contains.ensures base holds) ∙ c.if-contains.false)
    (c.loop-index.invariant base holds)
