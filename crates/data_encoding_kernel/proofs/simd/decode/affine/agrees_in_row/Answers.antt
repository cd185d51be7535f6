use Rattle.std.proofs.Common.{arith}
use Rattle.data_encoding_kernel.proofs.digits.AffineLemmas.{row-agrees}
use Rattle.data_encoding_kernel.proofs.simd.decode.affine.agrees_in_row.Goals as goal

pub returns : goal.returns
returns c = λ passes.
    row-agrees c.args.affine.now c.args.values.now c.bytes_of_row.result c.found_16-found.result
    c.args.row (omega arith) c.requires c.bytes_of_row.ensures c.found_16-found.ensures
    (c.are_below.ensures.below passes)
