use Rattle.std.proofs.Common.{◌≡◌, ◌+◌, ◌-◌, ◌*◌, ◌%◌, length, arith}
use Rattle.std.proofs.lemmas.List.{take_all}
use Rattle.data_encoding.proofs.decoding.PlacingLemmas.{kept-count}
use Rattle.data_encoding.proofs.decode.packed.skip_sixteens.Goals as goal

pub loop-index-init : goal.loop-index-init
loop-index-init c =
    let part = c.args.part.now in
    let all = take_all (length part - 16 * 0) part (omega arith) in
    (omega arith, λ base held. rw all (omega arith))

pub loop-index-preserved : goal.loop-index-preserved
loop-index-preserved c =
    let part = c.args.part.now in
    let end = length part - 16 * c.loop-index.index in
    let next : length part - 16 * (c.loop-index.index + 1) ≡ end - 16 =
    omega (arith, c.loop-index-test.true) in (
      omega (arith, c.loop-index.invariant.0, c.if-count-left.false),
      λ base held.
          rw next (omega (
            arith,
            kept-count base (end - 16) end part (omega arith) (omega arith),
            c.count_kept-count.ensures base held,
            c.loop-index.invariant.1 base held,
            c.loop-index.invariant.0,
            c.if-count-left.false,
          )),
    )

pub returns-clause-kept : goal.returns-clause-kept
returns-clause-kept c = λ base held.
    let part = c.args.part.now in
    let rest : length part - 16 * c.loop-index.index ≡ length part % 16 =
    omega (arith, c.loop-index-test.false, c.loop-index.auto.index-end) in
    rw rest at (c.loop-index.invariant.1 base held)
