use Rattle.std.proofs.Common.{refl}
use Rattle.data_encoding.specs.Base.{Base}
use Rattle.data_encoding_calls.specs.EncoderState.{FinishesData}
use Rattle.data_encoding_calls.proofs.NumberLemmas.{by-known, by-unknown}
use Rattle.data_encoding_c.proofs.encoder.de_numbered_encoder_finish.Goals as goal

pub returns-in_default : goal.returns-in_default
returns-in_default c = by-unknown (c.in_default.ensures.unknown.0 refl) (refl, refl)

pub returns : goal.returns
returns c =
    let Does = λ (b : Base).
    FinishesData b c.args.encoder.now c.args.output.now c.encoder_finish.new.output
    c.args.written.now c.encoder_finish.new.written c.encoder_finish.result in
    by-known Does c.in-Some.ensures.known c.encoder_finish.ensures
