use Rattle.std.proofs.lemmas.Str.{IsUtf8-from_ascii}
use Rattle.std.proofs.lemmas.Str.Ascii.{IsAscii-from_all}
use Rattle.conformance.proofs.callers.buffers.encode_and_log.Goals as goal

pub unreachable-requires : goal.unreachable-requires
unreachable-requires c =
    let text = c.encode_mut.new.output in
    c.in-Err.ensures.cases.0
    (IsUtf8-from_ascii text (IsAscii-from_all text c.encode_mut.ensures.ascii))
