use Rattle.std.proofs.Common.{arith}
use Rattle.data_encoding_kernel.proofs.digits.AffineLemmas.{rows-extended}
use Rattle.data_encoding_kernel.proofs.simd.decode.affine.affine_of.Goals as goal

pub loop-row-init : goal.loop-row-init
loop-row-init c = λ byte h. absurd (omega (arith, h))

pub loop-row-preserved : goal.loop-row-preserved
loop-row-preserved c =
    rows-extended c.candidate-affine.result c.args.values.now c.loop-row.row c.loop-row.invariant
    (c.agrees_in_row.ensures c.if-not-agrees_in_row.false)

pub returns : goal.returns
returns c = λ byte h.
    c.loop-row.invariant byte (omega (arith, h, c.loop-row-test.false))
