use Rattle.std.proofs.Common.{refl}
use Rattle.data_encoding.specs.Base.{Base}
use Rattle.data_encoding_calls.specs.EncoderState.{EncodesPiece}
use Rattle.data_encoding_calls.proofs.NumberLemmas.{by-known, by-unknown}
use Rattle.data_encoding_c.proofs.encoder.de_numbered_encoder_read.Goals as goal

pub returns-in_default : goal.returns-in_default
returns-in_default c = by-unknown (c.in_default.ensures.unknown.0 refl) (refl, refl, refl)

pub returns : goal.returns
returns c =
    let Does = λ (b : Base).
    EncodesPiece b c.args.piece.now
    (record {
      encoder = c.args.encoder.now;
      output = c.args.output.now;
      written = c.args.written.now;
    })
    (record {
      encoder = c.encoder_read.new.kept;
      output = c.encoder_read.new.output;
      written = c.encoder_read.new.written;
    }) c.encoder_read.result in
    by-known Does c.in-Some.ensures.known c.encoder_read.ensures
