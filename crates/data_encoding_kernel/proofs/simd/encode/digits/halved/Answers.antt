use Rattle.data_encoding_kernel.proofs.digits.LaneLemmas.{halved-lanes}
use Rattle.data_encoding_kernel.proofs.simd.encode.digits.halved.Goals as goal

pub returns : goal.returns
returns g c =
    halved-lanes 32 g.row.LOW g.row.HIGH g.row.UP c.args.lanes c.fits-lanes.0
