use Rattle.std.proofs.Common.{[], ◌++◌, take, sym, ap, ◌∙◌, subst}
use Rattle.encoding_stream.specs.BufferDecoder.{kept_by, Keeps}
use Rattle.encoding_stream.specs.Reading.{ReadsOn}
use Rattle.conformance.proofs.KeyLemmas.{so_far}
use Rattle.conformance.proofs.callers.referenced.decode_first.Goals as goal

pub returns : goal.returns
returns c =
    let base = c.args.encoding.now in
    let piece = c.args.piece.now in
    let made = c.new_by_ref-decoder in
    let read = c.read-written in
    let bytes = take read.result read.new.output in
    let reads : ReadsOn base (kept_by made.result) (kept_by read.new.self) piece bytes =
    rw made.ensures.base at read.ensures.reads in
    let keeps : Keeps base c.kept.result piece =
    subst (λ kept. Keeps base kept piece) (sym c.kept.ensures.value)
    (reads.keeps [] made.ensures.nothing) in
    record {
      keeps = keeps;
      bytes = reads.decodes [] made.ensures.nothing ∙ ap (λ l. l ++ bytes) made.ensures.no_bytes;
      stays =
          so_far c.fault_stays.ensures.groups base made.ensures.specified piece
          c.kept.result.fault keeps.first;
    }
