use Rattle.std.proofs.Common.{take, length-take-le, ap, ◌∙◌, arith}
use Rattle.std.proofs.lemmas.List.{take_at}
use Rattle.data_encoding_kernel.proofs.decode.store_lanes.Goals as goal

pub returns : goal.returns
returns c =
    ap (take c.args.count) c.store_front.ensures
    ∙ take_at (take c.args.count c.args.bytes) _ c.args.count
    (length-take-le c.args.count c.args.bytes (omega (arith, c.fits-bytes.0, c.requires.few)))
