use Rattle.std.proofs.Common.{◌≡◌, ◌-◌, length}
use Rattle.encoding_stream.specs.BufferDecoder.{base_of_pieces}
use Rattle.encoding_stream.proofs.ReadPieceLemmas.{ReadsFront}
use Rattle.encoding_stream.proofs.buffer_decoder.BufferDecoder.read_bytes.Given as goal

abbrev pub invariant-loop-read : goal.invariant-loop-read
invariant-loop-read l = record {
  base : base_of_pieces l.self ≡ base_of_pieces l.fn.self;
  front : ReadsFront (base_of_pieces l.fn.self) l.fn.self.kept l.self.kept l.piece l.output l.read
      l.written;
  len : length l.output ≡ length l.fn.output;
}

abbrev pub decreases-loop-read : goal.decreases-loop-read
decreases-loop-read l = length l.piece - l.read
