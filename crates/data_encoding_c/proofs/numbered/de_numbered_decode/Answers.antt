use Rattle.std.proofs.Common.{refl}
use Rattle.data_encoding_calls.specs.Calls.{Decodes}
use Rattle.data_encoding_calls.proofs.NumberLemmas.{by-known, by-unknown}
use Rattle.data_encoding_c.proofs.numbered.de_numbered_decode.Goals as goal

pub returns-in_default : goal.returns-in_default
returns-in_default c = by-unknown (c.in_default.ensures.unknown.0 refl) (refl, refl)

pub returns : goal.returns
returns c =
    by-known
    (λ b. Decodes b c.args.input.now c.args.output.now c.decode.new.output
    c.args.decoded.now c.decode.new.decoded c.decode.result)
    c.in-Some.ensures.known
    (record {
      status = c.decode.ensures.status;
      means = c.decode.ensures.means;
      all = c.decode.ensures.all;
      end = c.decode.ensures.end;
      refused = c.decode.ensures.refused;
      needed = c.decode.ensures.needed;
      by_length = c.decode.ensures.by_length;
      fault = c.decode.ensures.fault;
      short_fault = c.decode.ensures.short_fault;
      within = c.decode.ensures.within;
      after = c.decode.ensures.after;
    })
