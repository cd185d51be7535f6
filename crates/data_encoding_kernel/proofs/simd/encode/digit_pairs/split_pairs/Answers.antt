use Rattle.std.proofs.Common.{arith}
use Rattle.data_encoding_kernel.proofs.digits.PairLemmas.{halves-fit, split-are}
use Rattle.data_encoding_kernel.proofs.simd.encode.digit_pairs.split_pairs.Goals as goal

pub overflow_cast-result : goal.overflow_cast-result
overflow_cast-result c = halves-fit 16 _ _

pub returns : goal.returns
returns c =
    let by = c.args.by.now in
    split-are by.masks by.downs by.ups by.kept c.args.lanes c.fits-lanes.0 (omega arith)
    (omega arith)
