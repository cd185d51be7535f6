use Rattle.std.proofs.Common.{arith}
use Rattle.data_encoding_kernel.proofs.text.SixteenSymbolLemmas.{sixteen-bytes}
use Rattle.data_encoding_kernel.proofs.encode.EncodeSixteenEncodeTurn.encode_rest.Goals as goal

pub encode_sixteen-requires-clause-few : goal.encode_sixteen-requires-clause-few
encode_sixteen-requires-clause-few g c =
    omega (arith, c.requires, sixteen-bytes g.G.GroupSize.is_group)
