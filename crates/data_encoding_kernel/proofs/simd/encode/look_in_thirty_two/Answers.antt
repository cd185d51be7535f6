use Rattle.data_encoding_kernel.proofs.digits.RowLemmas.{in_thirty_two}
use Rattle.data_encoding_kernel.proofs.simd.encode.look_in_thirty_two.Goals as goal

pub returns : goal.returns
returns c =
    in_thirty_two c.args.entries.now c.args.values c.look_in_sixteen-odd.result
    c.look_in_sixteen-even.result
    c.fits-values.0 c.requires c.look_in_sixteen-odd.ensures c.look_in_sixteen-even.ensures
