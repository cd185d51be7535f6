use Rattle.std.proofs.Common.{rules}
use Rattle.encoding_stream.proofs.buffer_decoder.Kept.has_possible_fault.Goals as goal

pub returns-then-error-self-clause-sound : goal.returns-then-error-self-clause-sound
returns-then-error-self-clause-sound c = search rules
