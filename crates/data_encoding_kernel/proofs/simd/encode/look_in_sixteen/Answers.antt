use Rattle.std.proofs.Common.{slice_index}
use Rattle.data_encoding_kernel.proofs.digits.GatherRowLemmas.{places-ok}
use Rattle.data_encoding_kernel.proofs.digits.RowLemmas.{in_rows}
use Rattle.data_encoding_kernel.proofs.simd.encode.look_in_sixteen.Goals as goal

pub swizzle : goal.swizzle
swizzle c = places-ok 4 c.args.values c.fits-values.0

pub returns : goal.returns
returns c =
    in_rows (slice_index c.args.entries.now) c.rows.result c.args.values c.fits-values.0
    c.rows.ensures
