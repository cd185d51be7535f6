use Rattle.std.proofs.Common.{w8}
use Rattle.data_encoding_kernel.proofs.digits.GatherStoreLemmas.{lanes-below}
use Rattle.data_encoding_kernel.proofs.packing.IgnoredLemmas.{mask-kept}
use Rattle.data_encoding_kernel.proofs.ignore.kept_mask.Goals as goal

pub returns : goal.returns
returns c =
    mask-kept c.args.ignored.now c.args.bytes c.bits.result c.bits.ensures c.fits-bytes.0
    (lanes-below w8 c.args.bytes c.fits-bytes.1)
    c.in_row_16-rows.ensures c.in_row_16-row_bits.ensures
