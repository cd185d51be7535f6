use Rattle.std.proofs.Common.{◌≡◌, ◌^◌, ◌-◌, length, false}
use Rattle.encoding_stream.specs.Watch.{has_failed, inner_of}
use Rattle.encoding_stream.proofs.EncodedLemmas.{Encoded}
use Rattle.encoding_stream.proofs.stream_encoding.encode_stream.Given as goal

abbrev pub invariant-loop-count : goal.invariant-loop-count
invariant-loop-count g l = record {
  encoded : Encoded l.encoding (g.R.Read.remaining (inner_of l.initial.reader))
      (g.R.Read.remaining (inner_of l.reader)) (g.W.Write.contents (inner_of l.initial.writer))
      (g.W.Write.contents (inner_of l.writer)) l.total;
  reader_works : has_failed l.reader ≡ false;
  writer_works : has_failed l.writer ≡ false;
  chunk : length l.buffer ≡ 49152;
  room : length l.output ≡ 49152;
}

-- each turn but the last counts at least a byte
abbrev pub decreases-loop-count : goal.decreases-loop-count
decreases-loop-count g l = 2 ^ 64 - l.total
