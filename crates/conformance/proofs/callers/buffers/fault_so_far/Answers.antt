use Rattle.std.proofs.Common.{[], take, sym, subst}
use Rattle.encoding_stream.specs.BufferDecoder.{kept_by, Keeps}
use Rattle.encoding_stream.specs.Reading.{ReadsOn}
use Rattle.conformance.proofs.KeyLemmas.{so_far}
use Rattle.conformance.proofs.callers.buffers.fault_so_far.Goals as goal

pub returns : goal.returns
returns c =
    let base = c.args.encoding.now in
    let front = c.args.front.now in
    let reads : ReadsOn base (kept_by c.new-decoder.result) (kept_by c.read.new.self) front
    (take c.read.result c.read.new.output) = rw c.new-decoder.ensures.base at c.read.ensures.reads
    in
    let keeps : Keeps base c.kept.result front =
    subst (λ kept. Keeps base kept front) (sym c.kept.ensures.value)
    (reads.keeps [] c.new-decoder.ensures.nothing) in
    record {
      first = keeps.first;
      stays =
          so_far c.fault_stays.ensures.groups base c.bit_width.ensures.base front
          c.kept.result.fault keeps.first;
    }
