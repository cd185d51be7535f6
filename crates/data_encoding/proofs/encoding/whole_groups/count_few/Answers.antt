use Rattle.std.proofs.Common.{sym, ◌∙◌, arith}
use Rattle.data_encoding_meaning.proofs.decoding.GatherLemmas.{more-here, none-here}
use Rattle.data_encoding.proofs.encoding.whole_groups.count_few.Goals as goal
use Rattle.data_encoding.proofs.encoding.whole_groups.count_few.Goals.{then-not-contains, else-not-contains}

pub loop-index-preserved : goal.loop-index-preserved
loop-index-preserved c =
    let text = c.args.text.now in
    let at = c.loop-index.index in
    elim c.if-not-contains.branch [
      | then-not-contains w ↦ (
        omega (arith, c.loop-index.invariant.0, w.count-is),
        λ base holds.
            let more = more-here base text at c.loop-index-test.true
            (sym (c.contains.ensures base holds) ∙ w.if-not-contains.true) in
            omega (arith, more, c.loop-index.invariant.1 base holds, w.count-is),
      )
      | else-not-contains w ↦ (
        omega (arith, c.loop-index.invariant.0, w.count-is),
        λ base holds.
            let none = none-here base text at c.loop-index-test.true
            (sym (c.contains.ensures base holds) ∙ w.if-not-contains.false) in
            omega (arith, none, c.loop-index.invariant.1 base holds, w.count-is),
      )
    ]
