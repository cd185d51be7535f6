use Rattle.std.proofs.Common.{refl}
use Rattle.data_encoding_calls.specs.Calls.{TellsTextLength}
use Rattle.data_encoding_calls.proofs.NumberLemmas.{by-known, by-unknown}
use Rattle.data_encoding_c.proofs.numbered.de_numbered_encode_len.Goals as goal

pub returns-in_default : goal.returns-in_default
returns-in_default c = by-unknown (c.in_default.ensures.unknown.0 refl) refl

pub returns : goal.returns
returns c =
    by-known
    (λ b. TellsTextLength b c.args.len c.args.text_len.now c.encode_len.new.text_len
    c.encode_len.result)
    c.in-Some.ensures.known
    (record {
      status = c.encode_len.ensures.status;
      text_length = c.encode_len.ensures.length;
      refused = c.encode_len.ensures.refused;
    })
