use Rattle.std.proofs.Common.{◌≡◌, ◌+◌, ◌-◌, ◌*◌, refl, map, slice_index, subst, arith}
use Rattle.std.specs.List.{range_with_len}
use Rattle.std.specs.Simd.Lanes.{mask_l}
use Rattle.data_encoding_kernel.proofs.digits.AffineLemmas.{row-entries}
use Rattle.data_encoding_kernel.proofs.packing.IgnoredLemmas.{flags-below, holds-ignored, row-before, row_flags}
use Rattle.data_encoding_kernel.proofs.ignore.IgnoredBytes.of.Goals as goal

pub loop-below-init : goal.loop-below-init
loop-below-init c = refl

pub loop-below-preserved : goal.loop-below-preserved
loop-below-preserved c =
    let values = c.args.values.now in
    let below = c.loop-below.below in
    row-before values _ below c.loop-below-test.true
    (c.with_row-rows.ensures (λ k. slice_index values (16 * (7 - below) + k))
    (row_flags values (8 - below) below)
    (λ k. flags-below values (8 - below) below k c.loop-below-test.true)
    (row-entries (7 - below) values c.told-values (omega arith))
    c.loop-below.invariant)

pub returns : goal.returns
returns c base holds few =
    let values = c.args.values.now in
    let all : c.loop-below.below ≡ 8 =
    omega (arith, c.loop-below-test.false, c.loop-below.auto.below-end) in
    holds-ignored base values _ holds few
    (subst (λ n. c.loop-below.rows
    ≡ map (λ k. mask_l (row_flags values (8 - n) n k)) (range_with_len 0 16)) all
    c.loop-below.invariant)
