use Rattle.std.proofs.Common.{arith}
use Rattle.std.proofs.lemmas.Grind.{common_steps}
use Rattle.encoding_stream.proofs.failure_watch.WatchWrite.write.Goals as goal

pub returns-in-Ok-eq0-clause-failed : goal.returns-in-Ok-eq0-clause-failed
returns-in-Ok-eq0-clause-failed g c =
    rw c.in-Ok-eq0.is (grind (arith, common_steps))
