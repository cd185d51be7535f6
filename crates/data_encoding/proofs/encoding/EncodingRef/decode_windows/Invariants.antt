use Rattle.std.proofs.Common.{length, ◌-◌}
use Rattle.data_encoding.specs.Endings.{HasReachedTo}
use Rattle.data_encoding.proofs.encoding.EncodingRef.decode_windows.Given as goal

abbrev pub invariant-loop-at : goal.invariant-loop-at
invariant-loop-at g l =
    HasReachedTo l.fn.self l.fn.input l.at.read l.at.written l.output

abbrev pub decreases-loop-at : goal.decreases-loop-at
decreases-loop-at g l = length l.fn.input - l.at.read
