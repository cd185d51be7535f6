use Rattle.std.proofs.Common.{◌<◌, arith}
use Rattle.data_encoding_kernel.proofs.digits.GatherRowLemmas.{below-before, few-before, none-above, stops-before}
use Rattle.data_encoding_meaning.proofs.lists.EachLemmas.{all-at}
use Rattle.data_encoding_kernel.proofs.simd.compare.count_below.Goals as goal

pub returns-then-not-others-clause-below : goal.returns-then-not-others-clause-below
returns-then-not-others-clause-below g c = λ k h.
    all-at (λ lane. lane < c.args.limit) c.args.lanes
    (none-above c.args.limit g.row.N c.args.lanes c.fits-lanes.0 c.requires c.if-not-others.true) k
    (omega (arith, h, c.fits-lanes.0))

pub returns-clause-few : goal.returns-clause-few
returns-clause-few g c =
    few-before c.args.limit g.row.N c.args.lanes c.fits-lanes.0 c.requires c.if-not-others.false

pub returns-clause-below : goal.returns-clause-below
returns-clause-below g c =
    below-before c.args.limit g.row.N c.args.lanes c.fits-lanes.0 c.requires c.if-not-others.false

pub returns-clause-stop : goal.returns-clause-stop
returns-clause-stop g c =
    stops-before c.args.limit g.row.N c.args.lanes c.fits-lanes.0 c.requires c.if-not-others.false
