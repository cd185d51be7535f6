use Rattle.std.proofs.Common.{arith}
use Rattle.std.proofs.lemmas.Grind.{common_steps}
use Rattle.encoding_stream.proofs.WriteLemmas.{Appends-more}
use Rattle.encoding_stream.proofs.failure_watch.WatchWrite.write_all.Goals as goal

pub loop-done-preserved : goal.loop-done-preserved
loop-done-preserved g c = record {
  inside = grind (arith, common_steps);
  written = Appends-more _ _ _ _ _ _ c.loop-done.invariant.written c.in_ok-count.ensures.bytes;
  same = grind (arith, common_steps);
}
