use Rattle.data_encoding_kernel.proofs.packing.FrontLemmas.{contains-byte}
use Rattle.data_encoding_kernel.proofs.ignore.IgnoredBytes.contains.Goals as goal

pub returns : goal.returns
returns c = λ base held.
    contains-byte base c.args.self.now c.args.byte c.kept_mask.result held (c.ranges.byte.fits)
    c.kept_mask.ensures
