use Rattle.std.proofs.Common.{sym, ap, ◌∙◌, arith, length, length-take-le}
use Rattle.std.proofs.lemmas.Simd.{pick_l_left, pick_l-range_with_len, put_chunk_whole}
use Rattle.std.specs.List.{range_with_len}
use Rattle.data_encoding_kernel.proofs.simd.encode.store_thirty_two.Goals as goal

pub returns : goal.returns
returns c =
    let lanes = c.args.lanes in
    let is = pick_l_left 0 lanes lanes 64 (range_with_len 0 32) c.fits-lanes.0 tt
    ∙ pick_l-range_with_len 0 lanes 0 32 (omega (arith, c.fits-lanes.0)) in
    put_chunk_whole c.args.output.now _
    (c.requires.exact
    ∙ sym (ap length is ∙ length-take-le 32 lanes (omega (arith, c.fits-lanes.0))))
    ∙ is
