use Rattle.std.proofs.Common.{arith, refl}
use Rattle.std.proofs.lemmas.Grind.{common_steps}
use Rattle.encoding_stream.proofs.ReadLemmas.{take-read}
use Rattle.encoding_stream.proofs.fill.fill.Goals as goal

pub loop-filled-preserved : goal.loop-filled-preserved
loop-filled-preserved g c =
    let read = c.in_ok-count.ensures in
    record {
      inside = grind (arith, common_steps);
      read =
          take-read _ _ _ c.loop-filled.filled c.in_ok-count.count _ c.loop-filled.buffer
          c.read_once.new.buf refl c.loop-filled.invariant.inside read.bound.0
          c.loop-filled.invariant.read read.bytes.0;
      works = grind (arith, common_steps);
    }

pub returns-then-count-eq0-clause-bytes : goal.returns-then-count-eq0-clause-bytes
returns-then-count-eq0-clause-bytes g c =
    let read = c.in_ok-count.ensures in
    take-read _ _ _ c.loop-filled.filled c.in_ok-count.count _ c.loop-filled.buffer
    c.read_once.new.buf (omega (arith, c.if-count-eq0.true)) c.loop-filled.invariant.inside
    read.bound.0 c.loop-filled.invariant.read read.bytes.0
