use Rattle.std.proofs.Common.{replicate, ◌∙◌, map}
use Rattle.std.proofs.lemmas.Simd.{shifts_fit_splat}
use Rattle.std.specs.Simd.Lanes.{zip2, sel_l, top}
use Rattle.data_encoding_kernel.proofs.digits.GatherRowLemmas.{at_most, up, chosen-lanes}
use Rattle.data_encoding_kernel.proofs.simd.decode.table_rows.by_bit.Goals as goal

pub overflow_shl-bits : goal.overflow_shl-bits
overflow_shl-bits g c = shifts_fit_splat 8 c.args.bytes g.row.N c.args.up c.requires

pub returns : goal.returns
returns g c = λ f h ones zeros.
    (λ i. sel_l (map (top 7) (zip2 at_most (replicate g.row.N 128)
    (zip2 up c.args.bytes (replicate g.row.N c.args.up)))) (ones i) (zeros i))
    ∙ chosen-lanes c.args.up g.row.N f h c.args.bytes c.fits-bytes.0
