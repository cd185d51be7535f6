use Rattle.std.proofs.Common.{◌+◌, ◌-◌, ◌*◌, ◌≤◌, cond, nat_lt, length}
use Rattle.data_encoding.specs.Progress.{HasReached}
use Rattle.data_encoding.proofs.encoding.EncodingRef.decode_steps.Given as goal

abbrev pub invariant-loop-at : goal.invariant-loop-at
invariant-loop-at g l = record {
  reached : HasReached l.self l.input l.at l.output;
  within : l.len ≤ l.at.read;
}

-- a turn reads more, or is followed by one that does
abbrev pub decreases-loop-at : goal.decreases-loop-at
decreases-loop-at g l = 2 * (length l.input - l.at.read) + cond (nat_lt 0 l.len) 1 0
