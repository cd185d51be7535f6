use Rattle.data_encoding.specs.Progress.{GoesOn}
use Rattle.data_encoding.proofs.encoding.EncodingRef.decode_lines.Given as goal

abbrev pub invariant-loop : goal.invariant-loop
invariant-loop g l = record {
  on : GoesOn l.self l.input l.fn.at.read l.at l.output;
}
