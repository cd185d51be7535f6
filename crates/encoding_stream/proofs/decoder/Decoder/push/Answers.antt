use Rattle.std.proofs.Common.{ℕ, List, ◌++◌, sym, subst}
use Rattle.std.proofs.lemmas.Bool.{false≢true}
use Rattle.encoding_stream.specs.Decoder.{AppendsPushed, HasConsumed}
use Rattle.encoding_stream.specs.BufferDecoder.{base_of_pieces, Keeps}
use Rattle.encoding_stream.specs.Reading.{AppendsPiece}
use Rattle.encoding_stream.specs.declared.decoder.Decoder.{Decoder}
use Rattle.encoding_stream.specs.declared.buffer_decoder.Kept.{Kept}
use Rattle.encoding_stream.proofs.DecoderLemmas.{appended-after, piece-appended}
use Rattle.encoding_stream.proofs.decoder.Decoder.push.Goals as goal

pub returns-clause-stands : goal.returns-clause-stands
returns-clause-stands c = λ text is.
    subst (λ b. Keeps b c.append_piece.new.pieces.kept (text ++ c.args.piece.now))
    (sym c.append_piece.ensures.base)
    (c.in_ok-append_piece.ensures.appends.reads.keeps text is)

-- what is appended for a piece, for each text
pushed : (decoder : Decoder) (new : Kept) (piece x y : List ℕ)
    → AppendsPiece (base_of_pieces decoder.pieces) decoder.pieces.kept new piece x y
    → AppendsPushed decoder piece x y
pushed decoder new piece x y appends =
    let bytes = λ (text : List ℕ) (is : HasConsumed decoder text).
    piece-appended (base_of_pieces decoder.pieces) decoder.pieces.kept new piece x y text appends is
    in
    record {
      bytes = bytes;
      decoded = λ before text is has. record {
        appended = appended-after before has.appended (bytes text is);
      };
    }

pub returns-clause-appends : goal.returns-clause-appends
returns-clause-appends c =
    pushed c.args.self.now c.append_piece.new.pieces.kept c.args.piece.now c.args.output.now.items
    c.append_piece.new.output.items c.in_ok-append_piece.ensures.appends

pub returns-then-most-capacity-clause-stands : goal.returns-then-most-capacity-clause-stands
returns-then-most-capacity-clause-stands c = λ text is.
    subst (λ b. Keeps b c.append_within.new.pieces.kept (text ++ c.args.piece.now))
    (sym c.append_within.ensures.base) (c.append_within.ensures.appends.reads.keeps text is)

pub returns-then-most-capacity-clause-appends : goal.returns-then-most-capacity-clause-appends
returns-then-most-capacity-clause-appends c =
    pushed c.args.self.now c.append_within.new.pieces.kept c.args.piece.now
    c.args.output.now.items c.append_within.new.output.items c.append_within.ensures.appends

pub returns-in_err-append_piece-clause-no_group : goal.returns-in_err-append_piece-clause-no_group
returns-in_err-append_piece-clause-no_group c = λ text is none.
    absurd (false≢true (c.in_err-append_piece.ensures.no_group text is none))
