use Rattle.std.proofs.Common.{refl}
use Rattle.data_encoding.specs.Base.{Base}
use Rattle.data_encoding_calls.specs.DecoderState.{FinishesText}
use Rattle.data_encoding_calls.proofs.NumberLemmas.{by-known, by-unknown}
use Rattle.data_encoding_c.proofs.decoder.de_numbered_decoder_finish.Goals as goal

pub returns-in_default : goal.returns-in_default
returns-in_default c = by-unknown (c.in_default.ensures.unknown.0 refl) (refl, refl)

pub returns : goal.returns
returns c =
    let Does = λ (b : Base).
    FinishesText b c.args.decoder.now c.args.output.now c.decoder_finish.new.output
    c.args.decoded.now c.decoder_finish.new.decoded c.decoder_finish.result in
    by-known Does c.in-Some.ensures.known c.decoder_finish.ensures
