use Rattle.data_encoding_meaning.proofs.text.WrittenLemmas.{IsWrittenBefore}
use Rattle.std.proofs.Common.{length}
use Rattle.data_encoding.proofs.encoding.EncodingRef.encode_write_buffer.Given as goal

abbrev pub invariant-loop-rest : goal.invariant-loop-rest
invariant-loop-rest g l =
    IsWrittenBefore g.W.Write.write_str_gives l.self l.input l.rest l.initial.output l.output

abbrev pub decreases-loop-rest : goal.decreases-loop-rest
decreases-loop-rest g l = length l.rest
