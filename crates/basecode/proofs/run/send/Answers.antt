use Rattle.std.proofs.KnownBytes.{Appends-kept}
use Rattle.basecode.proofs.run.send.Goals.{then-is_err-via-then-is_err, then-is_err-via-else-is_err+then-is_err-2}
use Rattle.basecode.proofs.run.send.Goals as goal

pub returns-then-is_err-clause-begun : goal.returns-then-is_err-clause-begun
returns-then-is_err-clause-begun g c =
    elim c.then-is_err.branch [
      | then-is_err-via-then-is_err w ↦ rw w.writer-is c.write_all.ensures.begun
      | then-is_err-via-else-is_err+then-is_err-2 w ↦
          let begun = c.write_all.ensures.begun in
          rw w.writer-is (begun.0, Appends-kept _ _ _ _ begun.1 w.flush.ensures.bytes)
    ]
