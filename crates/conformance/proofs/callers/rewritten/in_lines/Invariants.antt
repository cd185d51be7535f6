use Rattle.std.proofs.Common.{◌≡◌, ◌++◌}
use Rattle.std.specs.Prelude.{flat_map}
use Rattle.data_encoding.specs.Bits.{runs}
use Rattle.conformance.proofs.LineLemmas.{ended}
use Rattle.conformance.proofs.callers.rewritten.in_lines.Given as goal

abbrev pub invariant-loop-run : goal.invariant-loop-run
invariant-loop-run l = record {
  size : l.run-iterator.size ≡ l.line;
  lines : l.output.items ++ flat_map ended (runs l.line l.run-iterator.rest.now)
      ≡ flat_map ended (runs l.line l.bytes);
}
