use Rattle.std.proofs.Common.{refl}
use Rattle.encoding_stream.proofs.buffer_decoder.BufferDecoder.kept.Goals as goal

pub returns-clause-value : goal.returns-clause-value
returns-clause-value c = refl
