use Rattle.std.proofs.Common.{◌≡◌, ◌≤◌, ◌-◌, length, take}
use Rattle.std.specs.Io.KnownBytes.{Appends}
use Rattle.encoding_stream.specs.Watch.{has_failed, inner_of}
use Rattle.encoding_stream.proofs.failure_watch.WatchWrite.write_all.Given as goal

abbrev pub invariant-loop-done : goal.invariant-loop-done
invariant-loop-done g l = record {
  inside : l.done ≤ length l.buf;
  written : Appends (g.T.Write.contents (inner_of l.initial.self))
      (g.T.Write.contents (inner_of l.self)) (take l.done l.buf);
  same : has_failed l.self ≡ has_failed l.initial.self;
}

abbrev pub decreases-loop-done : goal.decreases-loop-done
decreases-loop-done g l = length l.buf - l.done
