use Rattle.data_encoding_kernel.proofs.digits.GatherRowLemmas.{all-below, none-if_below}
use Rattle.data_encoding_kernel.proofs.simd.compare.are_below.Goals as goal

pub returns-clause-below : goal.returns-clause-below
returns-clause-below g c = all-below c.args.limit g.row.N c.args.lanes c.fits-lanes.0 c.requires

pub returns-clause-all : goal.returns-clause-all
returns-clause-all g c = none-if_below c.args.limit g.row.N c.args.lanes c.fits-lanes.0 c.requires
