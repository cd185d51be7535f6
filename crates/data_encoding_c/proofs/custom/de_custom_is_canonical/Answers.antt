use Rattle.std.proofs.Common.{subst}
use Rattle.data_encoding_calls.specs.Calls.{TellsIfCanonical}
use Rattle.data_encoding_c.proofs.custom.de_custom_is_canonical.Goals as goal

pub returns : goal.returns
returns c =
    let ensured = c.is_canonical.ensures in
    subst
    (λ b. TellsIfCanonical b c.is_canonical.new.answer c.is_canonical.result)
    c.by_ref.ensures
    (record {
      status = ensured.status;
      is_canonical = ensured.canonical;
    })
