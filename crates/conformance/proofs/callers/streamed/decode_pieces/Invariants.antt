use Rattle.std.proofs.Common.{◌≡◌, [], ◌++◌, flat_map, take}
use Rattle.data_encoding.specs.Pieces.{whole_bytes}
use Rattle.encoding_stream.specs.Decoder.{base_of_decoder, HasConsumed}
use Rattle.conformance.proofs.callers.streamed.decode_pieces.Given as goal

abbrev pub invariant-loop-piece : goal.invariant-loop-piece
invariant-loop-piece l = record {
  base : base_of_decoder l.decoder ≡ l.fn.encoding;
  consumed : HasConsumed l.decoder (flat_map (λ piece. piece.now) (take l.piece-index l.pieces));
  sound :
      l.output.items
      ≡ l.fn.output.items
      ++ whole_bytes l.fn.encoding (flat_map (λ piece. piece.now) (take l.piece-index l.pieces));
  drained : l.buffer.items ≡ [];
}
