use Rattle.data_encoding_kernel.proofs.digits.RowLemmas.{in_sixty_four}
use Rattle.data_encoding_kernel.proofs.simd.encode.look_in_sixty_four.Goals as goal

pub returns : goal.returns
returns c =
    in_sixty_four c.args.entries.now c.args.values c.look_in_thirty_two-high.result
    c.look_in_thirty_two-low.result
    c.fits-values.0 c.requires c.look_in_thirty_two-high.ensures c.look_in_thirty_two-low.ensures
