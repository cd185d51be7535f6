use Rattle.std.proofs.Common.{◌≡◌, ◌+◌, ◌-◌, ◌≤◌, ◌⊎◌, length, take, vec_capacity, vec_len}
use Rattle.encoding_stream.specs.Appending.{IsAsBefore}
use Rattle.encoding_stream.specs.BufferDecoder.{base_of_pieces, most_completed}
use Rattle.encoding_stream.specs.Reading.{AppendsPiece}
use Rattle.encoding_stream.proofs.append_piece.append_piece.Given as goal

abbrev pub invariant-loop-read : goal.invariant-loop-read
invariant-loop-read g l = record {
  base : base_of_pieces l.pieces ≡ base_of_pieces l.initial.pieces;
  appends : AppendsPiece (base_of_pieces l.initial.pieces) l.initial.pieces.kept l.pieces.kept
      (take l.read l.piece) l.initial.output.items l.output.items;
  within : l.read ≤ length l.piece;
  grown : IsAsBefore l.initial.output l.output
      ⊎ (vec_len l.output
      + most_completed (base_of_pieces l.initial.pieces) l.pieces.kept (length l.piece - l.read)
      ≤ vec_capacity l.output);
}

abbrev pub decreases-loop-read : goal.decreases-loop-read
decreases-loop-read g l = length l.piece - l.read
