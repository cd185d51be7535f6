use Rattle.std.proofs.Common.{refl}
use Rattle.data_encoding_calls.specs.Calls.{TellsIfCanonical}
use Rattle.data_encoding_calls.proofs.NumberLemmas.{by-known, by-unknown}
use Rattle.data_encoding_c.proofs.numbered.de_numbered_is_canonical.Goals as goal

pub returns-in_default : goal.returns-in_default
returns-in_default c = by-unknown (c.in_default.ensures.unknown.0 refl) refl

pub returns : goal.returns
returns c =
    by-known
    (λ b. TellsIfCanonical b c.is_canonical.new.answer c.is_canonical.result)
    c.in-Some.ensures.known
    (record {
      status = c.is_canonical.ensures.status;
      is_canonical = c.is_canonical.ensures.canonical;
    })
