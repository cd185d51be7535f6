use Rattle.std.proofs.Common.{◌≡◌, ◌+◌, ◌-◌, ◌<◌, length, sym, ◌∙◌, arith}
use Rattle.std.proofs.lemmas.List.{take_all}
use Rattle.data_encoding_meaning.proofs.decoding.GatherLemmas.{more-here, none-here}
use Rattle.data_encoding.proofs.decode.packed.span_before_some.Goals as goal
use Rattle.data_encoding.proofs.decode.packed.span_before_some.Goals.{then-not-contains+else-left-eq0, else-not-contains}

pub loop-index-init : goal.loop-index-init
loop-index-init c =
    let part = c.args.part.now in
    let all = take_all (length part - 0) part (omega arith) in
    (omega arith, λ base holds. rw all (omega arith))

pub returns-then-left-eq0-clause-ends : goal.returns-then-left-eq0-clause-ends
returns-then-left-eq0-clause-ends c base holds few = record {
  before = omega (arith, c.loop-index.invariant.1 base holds, c.if-left-eq0.true);
  ends = λ some. sym (c.contains.ensures base holds) ∙ c.if-not-contains.true;
}

pub loop-index-preserved : goal.loop-index-preserved
loop-index-preserved c =
    let part = c.args.part.now in
    let index = c.loop-index.index in
    let at = length part - index - 1 in
    let inside : at < length part = omega (arith, c.loop-index-test.true) in
    let end : at + 1 ≡ length part - index = omega (arith, c.loop-index-test.true) in
    let next : length part - (index + 1) ≡ at = omega arith in
    elim c.if-not-contains.branch [
      | then-not-contains+else-left-eq0 w ↦ (
        omega (arith, c.loop-index.invariant.0, w.left-is),
        λ base holds.
            let more = rw end at (more-here base part at inside
            (sym (c.contains.ensures base holds) ∙ w.if-not-contains.true)) in
            rw next (omega (
              arith,
              more,
              c.loop-index.invariant.1 base holds,
              c.loop-index.invariant.0,
              w.left-is,
              w.if-left-eq0.false,
            )),
      )
      | else-not-contains w ↦ (
        omega (arith, c.loop-index.invariant.0, w.left-is),
        λ base holds.
            let none = rw end at (none-here base part at inside
            (sym (c.contains.ensures base holds) ∙ w.if-not-contains.false)) in
            rw next (omega (arith, none, c.loop-index.invariant.1 base holds, w.left-is)),
      )
    ]

pub returns-clause-ends : goal.returns-clause-ends
returns-clause-ends c base holds few =
    let part = c.args.part.now in
    let past : length part - c.loop-index.index ≡ 0 =
    omega (arith, c.loop-index-test.false) in
    let all = rw past at (c.loop-index.invariant.1 base holds) in
    record {
      before = omega (arith, all, c.loop-index.invariant.0, few);
      ends = λ some. absurd (omega (arith, some));
    }
