use Rattle.std.proofs.Common.{refl}
use Rattle.data_encoding_calls.specs.Calls.{Encodes}
use Rattle.data_encoding_calls.proofs.NumberLemmas.{by-known, by-unknown}
use Rattle.data_encoding_c.proofs.numbered.de_numbered_encode.Goals as goal

pub returns-in_default : goal.returns-in_default
returns-in_default c = by-unknown (c.in_default.ensures.unknown.0 refl) (refl, refl)

pub returns : goal.returns
returns c =
    by-known
    (λ b. Encodes b c.args.input.now c.args.output.now c.encode.new.output
    c.args.written.now c.encode.new.written c.encode.result)
    c.in-Some.ensures.known
    (record {
      status = c.encode.ensures.status;
      text = c.encode.ensures.text;
      written = c.encode.ensures.written;
      refused = c.encode.ensures.refused;
    })
