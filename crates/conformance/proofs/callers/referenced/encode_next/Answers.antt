use Rattle.std.proofs.Common.{take, sym, subst}
use Rattle.encoding_stream.specs.BufferEncoder.{EncodesOn}
use Rattle.conformance.proofs.callers.referenced.encode_next.Goals as goal

pub returns-clause-encodes : goal.returns-clause-encodes
returns-clause-encodes c =
    let base = c.args.encoding.now in
    let piece = c.args.piece.now in
    let read = c.read-written in
    let text = take read.result read.new.output in
    let at_base = rw c.in-Some.ensures.base at read.ensures.encodes in
    let encodes = rw c.in-Some.ensures.kept at at_base in
    subst (λ kept. EncodesOn base c.args.kept kept piece text) (sym c.kept.ensures.value) encodes
