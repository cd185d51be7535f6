use Rattle.std.proofs.Common.{refl}
use Rattle.data_encoding_calls.specs.Calls.{TellsMost}
use Rattle.data_encoding_calls.proofs.NumberLemmas.{by-known, by-unknown}
use Rattle.data_encoding_c.proofs.numbered.de_numbered_decode_len.Goals as goal

pub returns-in_default : goal.returns-in_default
returns-in_default c = by-unknown (c.in_default.ensures.unknown.0 refl) refl

pub returns : goal.returns
returns c =
    by-known
    (λ b. TellsMost b c.args.len c.args.most.now c.decode_len.new.most c.decode_len.result)
    c.in-Some.ensures.known
    (record {
      status = c.decode_len.ensures.status;
      value = c.decode_len.ensures.value;
      fault = c.decode_len.ensures.fault;
      refused = c.decode_len.ensures.refused;
    })
