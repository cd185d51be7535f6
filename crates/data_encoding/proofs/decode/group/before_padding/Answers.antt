use Rattle.std.proofs.Common.{◌≡◌, ◌-◌, length, arith}
use Rattle.std.specs.Int.{bit_at}
use Rattle.data_encoding.proofs.decoding.JudgedGroupLemmas.{count-before}
use Rattle.data_encoding.proofs.decode.group.before_padding.Goals as goal
use Rattle.data_encoding.proofs.decode.group.before_padding.Goals.{then-not-is_other-via-then-not-is_other, then-not-is_other-via-else-not-is_other+then-values-group}

pub returns-then-not-is_other-clause-count : goal.returns-then-not-is_other-clause-count
returns-then-not-is_other-clause-count c base holds =
    let group = c.args.group.now in
    let last = length group - c.loop-padding.padding - 1 in
    count-before base c.args.values.now holds group (λ k. (c.type_inv.group k).fits)
    (length group - c.loop-padding.padding) (omega arith)
    (λ k from inside. c.loop-padding.invariant k (omega (arith, from)) inside)
    (λ some is_padding.
    elim c.then-not-is_other.branch [
      | then-not-is_other-via-then-not-is_other w ↦
          let clear : bit_at c.args.others last ≡ 0 = omega (arith, w.if-not-is_other.true) in
          let low = (c.requires.others last (omega (arith, some))).0 clear in
          absurd (omega (arith, is_padding, low))
      | then-not-is_other-via-else-not-is_other+then-values-group w ↦
          w.if-values-group.true is_padding
    ])

pub returns-clause-count : goal.returns-clause-count
returns-clause-count c base holds =
    count-before base c.args.values.now holds c.args.group.now (λ k. (c.type_inv.group k).fits) 0
    (omega arith) (λ k _ inside. c.loop-padding.invariant k (omega arith) inside)
    (λ some. absurd (omega (arith, some)))
