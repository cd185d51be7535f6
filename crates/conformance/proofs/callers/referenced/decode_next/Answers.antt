use Rattle.std.proofs.Common.{◌++◌, take, sym, subst}
use Rattle.encoding_stream.specs.BufferDecoder.{kept_by, Keeps}
use Rattle.encoding_stream.specs.Reading.{ReadsOn}
use Rattle.conformance.proofs.callers.referenced.decode_next.Goals as goal

pub returns-clause-keeps : goal.returns-clause-keeps
returns-clause-keeps c = λ text keeps.
    let base = c.args.encoding.now in
    let piece = c.args.piece.now in
    let going = c.in-Some.ensures.goes_on in
    let read = c.read-written in
    let reads : ReadsOn base (kept_by c.in-Some.decoder) (kept_by read.new.self) piece
    (take read.result read.new.output) = rw going.base_is at read.ensures.reads in
    subst (λ kept. Keeps base kept (text ++ piece)) (sym c.kept.ensures.value)
    (reads.keeps text (subst (λ kept. Keeps base kept text) (sym going.kept_is) keeps))

pub returns-clause-bytes : goal.returns-clause-bytes
returns-clause-bytes c = λ text keeps.
    let base = c.args.encoding.now in
    let going = c.in-Some.ensures.goes_on in
    let read = c.read-written in
    let reads : ReadsOn base (kept_by c.in-Some.decoder) (kept_by read.new.self)
    c.args.piece.now (take read.result read.new.output) =
    rw going.base_is at read.ensures.reads in
    reads.decodes text (subst (λ kept. Keeps base kept text) (sym going.kept_is) keeps)
