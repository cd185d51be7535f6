use Rattle.std.proofs.Common.{sym, ap, ◌∙◌, arith, length, length-take-le}
use Rattle.std.proofs.lemmas.Simd.{put_chunk_whole}
use Rattle.data_encoding_kernel.proofs.simd.encode.store_sixteen.Goals as goal

pub returns : goal.returns
returns c =
    let lanes = c.args.lanes in
    put_chunk_whole c.args.output.now c.first_sixteen.result
    (c.requires.exact
    ∙ sym (ap length c.first_sixteen.ensures
    ∙ length-take-le 16 lanes (omega (arith, c.fits-lanes.0))))
    ∙ c.first_sixteen.ensures
