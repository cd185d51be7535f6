use Rattle.std.proofs.Common.{refl}
use Rattle.data_encoding_calls.proofs.DecoderStateLemmas.{none-consumed}
use Rattle.data_encoding_calls.proofs.decoder_state.decoder_most.Goals as goal

pub returns-in_default : goal.returns-in_default
returns-in_default c =
    let none =
    none-consumed c.args.encoding.now c.args.plain.now c.decoder_of.result c.in_default.is
    c.decoder_of.ensures.stands in
    record {
      status = λ text consumed. absurd (none text consumed);
      value = λ is text consumed. absurd (none text consumed);
      refused = λ _. refl;
    }
