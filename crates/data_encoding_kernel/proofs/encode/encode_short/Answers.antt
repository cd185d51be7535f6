use Rattle.std.proofs.Common.{arith}
use Rattle.data_encoding_kernel.proofs.text.SixteenSymbolLemmas.{sixteen-most, sixteen-some}
use Rattle.data_encoding_kernel.proofs.encode.encode_short.Goals as goal

pub encode_turns-requires-clause-some : goal.encode_turns-requires-clause-some
encode_turns-requires-clause-some g c = sixteen-some g.G.GroupSize.is_group

pub encode_turns-requires-clause-few : goal.encode_turns-requires-clause-few
encode_turns-requires-clause-few g c = omega (arith, sixteen-most g.G.GroupSize.is_group)

pub encode_turns-requires-2-clause-some : goal.encode_turns-requires-2-clause-some
encode_turns-requires-2-clause-some g c = sixteen-some g.G.GroupSize.is_group

pub encode_turns-requires-2-clause-few : goal.encode_turns-requires-2-clause-few
encode_turns-requires-2-clause-few g c = omega (arith, sixteen-most g.G.GroupSize.is_group)
