use Rattle.std.proofs.Common.{w8, arith}
use Rattle.data_encoding_kernel.proofs.digits.GatherStoreLemmas.{lanes-below}
use Rattle.data_encoding_kernel.proofs.digits.AffineLemmas.{rows-found}
use Rattle.data_encoding_kernel.proofs.simd.decode.affine.found_64.Goals as goal

pub found-requires : goal.found-requires
found-requires c =
    let found = rows-found c.args.affine.now 64 c.args.bytes c.bits.result c.bits.ensures
    c.fits-bytes.0 (lanes-below w8 c.args.bytes c.fits-bytes.1) c.in_row_64.ensures
    c.in_row_64-2.ensures c.in_row_64-3.ensures c.in_row_64-4.ensures in
    (omega arith, (found.0, (found.1, (found.2, found.3))))
