use Rattle.std.proofs.Common.{◌≡◌, ◌-◌, ◌≤◌, length, false}
use Rattle.encoding_stream.specs.BufferDecoder.{base_of_pieces}
use Rattle.encoding_stream.specs.Watch.{has_failed, inner_of}
use Rattle.encoding_stream.proofs.DecodedLemmas.{Decoded}
use Rattle.encoding_stream.proofs.stream_decoding.decode_stream.Given as goal

abbrev pub invariant-loop-count : goal.invariant-loop-count
invariant-loop-count g l = record {
  base : base_of_pieces l.pieces ≡ l.encoding;
  decoded : Decoded l.encoding l.pieces.kept
      (g.R.Read.remaining (inner_of l.initial.reader)) (g.R.Read.remaining (inner_of l.reader))
      (g.W.Write.contents (inner_of l.initial.writer)) (g.W.Write.contents (inner_of l.writer));
  reader_works : has_failed l.reader ≡ false;
  writer_works : has_failed l.writer ≡ false;
  limit : l.pieces.kept.len ≤ 2305843009213693951;
  chunk : length l.buffer ≡ 32768;
  room : length l.output ≡ 32776;
}

-- each turn but the last counts at least a byte
abbrev pub decreases-loop-count : goal.decreases-loop-count
decreases-loop-count g l = 2305843009213693951 - l.pieces.kept.len
