use Rattle.std.proofs.Common.{◌≡◌, ◌≤◌, ◌-◌, length, take, false}
use Rattle.std.specs.Io.KnownBytes.{Consumes}
use Rattle.encoding_stream.specs.Watch.{has_failed, inner_of}
use Rattle.encoding_stream.proofs.fill.fill.Given as goal

abbrev pub invariant-loop-filled : goal.invariant-loop-filled
invariant-loop-filled g l = record {
  inside : l.filled ≤ length l.buffer;
  read : Consumes (g.R.Read.remaining (inner_of l.initial.reader))
      (g.R.Read.remaining (inner_of l.reader)) (take l.filled l.buffer);
  works : has_failed l.reader ≡ false;
}

abbrev pub decreases-loop-filled : goal.decreases-loop-filled
decreases-loop-filled g l = length l.buffer - l.filled
