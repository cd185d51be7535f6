use Rattle.std.proofs.Common.{refl}
use Rattle.data_encoding.specs.Base.{Base}
use Rattle.data_encoding_calls.specs.DecoderState.{ReadsPiece}
use Rattle.data_encoding_calls.proofs.NumberLemmas.{by-known, by-unknown}
use Rattle.data_encoding_c.proofs.decoder.de_numbered_decoder_read.Goals as goal

pub returns-in_default : goal.returns-in_default
returns-in_default c = by-unknown (c.in_default.ensures.unknown.0 refl) (refl, refl, refl)

pub returns : goal.returns
returns c =
    let Does = λ (b : Base).
    ReadsPiece b c.args.piece.now
    (record {
      decoder = c.args.decoder.now;
      output = c.args.output.now;
      written = c.args.written.now;
    })
    (record {
      decoder = c.decoder_read.new.plain;
      output = c.decoder_read.new.output;
      written = c.decoder_read.new.written;
    }) c.decoder_read.result in
    by-known Does c.in-Some.ensures.known c.decoder_read.ensures
