use Rattle.std.proofs.Common.{◌∙◌, arith}
use Rattle.std.proofs.lemmas.Simd.{pick_l_left, pick_l-range_with_len}
use Rattle.std.specs.List.{range_with_len}
use Rattle.data_encoding_kernel.proofs.simd.encode.first_sixteen.Goals as goal

pub returns : goal.returns
returns c =
    let lanes = c.args.lanes in
    pick_l_left 0 lanes lanes 64 (range_with_len 0 16) c.fits-lanes.0 tt
    ∙ pick_l-range_with_len 0 lanes 0 16 (omega (arith, c.fits-lanes.0))
