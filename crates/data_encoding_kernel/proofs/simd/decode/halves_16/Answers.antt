use Rattle.std.proofs.Common.{w16, arith}
use Rattle.std.proofs.lemmas.Nat.{and_mask}
use Rattle.std.proofs.lemmas.Simd.{below_from_Fits, shifts_fit_splat}
use Rattle.data_encoding_kernel.proofs.digits.GatherStepLemmas.{joined-lanes}
use Rattle.data_encoding_kernel.proofs.simd.decode.halves_16.Goals as goal

pub overflow_shr-high : goal.overflow_shr-high
overflow_shr-high g c = shifts_fit_splat 16 c.args.lanes g.row.N 8 (omega arith)

pub overflow_shl-result : goal.overflow_shl-result
overflow_shl-result g c =
    shifts_fit_splat 16 _ g.row.N c.weight_at-low_weight.result
    (omega (arith, c.requires, c.weight_at-low_weight.ensures.inside))

pub overflow_shl-result-2 : goal.overflow_shl-result-2
overflow_shl-result-2 g c =
    shifts_fit_splat 16 _ g.row.N c.weight_at-high_weight.result
    (omega (arith, c.requires, c.weight_at-high_weight.ensures.inside))

pub returns : goal.returns
returns g c =
    joined-lanes 8 c.args.order c.args.size 255 g.row.N
    c.weight_at-low_weight.result c.weight_at-high_weight.result c.args.lanes
    (λ x. and_mask x 8)
    (omega (arith, c.requires, c.weight_at-low_weight.ensures.inside))
    (omega (arith, c.requires, c.weight_at-high_weight.ensures.inside))
    c.weight_at-low_weight.ensures.weight c.weight_at-high_weight.ensures.weight
    c.fits-lanes.0 (below_from_Fits w16 c.args.lanes c.fits-lanes.1)
