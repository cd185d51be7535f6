use Rattle.std.proofs.Common.{refl}
use Rattle.data_encoding.specs.Base.{Base}
use Rattle.data_encoding_calls.specs.EncoderState.{TellsDue}
use Rattle.data_encoding_calls.proofs.NumberLemmas.{by-known, by-unknown}
use Rattle.data_encoding_c.proofs.encoder.de_numbered_encoder_most.Goals as goal

pub returns-in_default : goal.returns-in_default
returns-in_default c = by-unknown (c.in_default.ensures.unknown.0 refl) refl

pub returns : goal.returns
returns c =
    let Does = λ (b : Base).
    TellsDue b c.args.encoder.now c.args.len c.args.most.now c.encoder_most.new.most
    c.encoder_most.result in
    by-known Does c.in-Some.ensures.known c.encoder_most.ensures
