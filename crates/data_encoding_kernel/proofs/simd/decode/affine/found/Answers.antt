use Rattle.std.proofs.Common.{w8}
use Rattle.data_encoding_kernel.proofs.digits.GatherStoreLemmas.{lanes-below}
use Rattle.data_encoding_kernel.proofs.digits.AffineLemmas.{found-are}
use Rattle.data_encoding_kernel.proofs.simd.decode.affine.found.Goals as goal

pub returns : goal.returns
returns g c =
    found-are c.args.affine.now g.row.N c.args.bytes c.args.symbols c.args.bits c.args.deltas
    c.args.shared c.fits-bytes.0 (lanes-below w8 c.args.bytes c.fits-bytes.1) c.requires.symbols
    c.requires.bits c.requires.deltas c.requires.shared
