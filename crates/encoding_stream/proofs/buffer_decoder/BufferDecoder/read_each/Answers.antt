use Rattle.std.proofs.lemmas.List.{take_all}
use Rattle.encoding_stream.proofs.ReadPieceLemmas.{reads-after, reads-front}
use Rattle.encoding_stream.proofs.buffer_decoder.BufferDecoder.read_each.Goals as goal

pub returns-then-read-piece-clause-reads : goal.returns-then-read-piece-clause-reads
returns-then-read-piece-clause-reads c =
    let bytes = c.read_bytes-read in
    reads-after (reads-front bytes.ensures.reads bytes.ensures.read bytes.ensures.within)
    (rw bytes.ensures.base at c.skip.ensures.reads)

pub returns-else-read-piece-clause-reads : goal.returns-else-read-piece-clause-reads
returns-else-read-piece-clause-reads c =
    rw (take_all c.read_bytes-read.result.0 c.args.piece.now c.if-read-piece.false)
    at c.read_bytes-read.ensures.reads
