use Rattle.std.proofs.Common.{◌≡◌, ◌↔◌, ℕ, List, true, false, lit<, ◌∙◌, ⊎_elim}
use Rattle.std.proofs.lemmas.Bool.{false≢true}
use Rattle.data_encoding.specs.Fields.{IsSpecified}
use Rattle.data_encoding.specs.Grammar.{Means}
use Rattle.data_encoding.specs.Predefined.{base64url_nopad_fields}
use Rattle.data_encoding.specs.Text.{text_of}
use Rattle.conformance.proofs.FaultLemmas.{error-not-memory}
use Rattle.conformance.proofs.NameLemmas.{is_built-seen}
use Rattle.conformance.proofs.callers.names.decoded_token.Goals as goal

pub returns-in-Ok-clause-only : goal.returns-in-Ok-clause-only
returns-in-Ok-clause-only c =
    let seen = c.base64url_nopad.result in
    let is_built = c.base64url_nopad.ensures in
    let is : IsSpecified seen =
    record { fields = base64url_nopad_fields; is_built = is_built } in
    let one = (c.canonical.ensures.causes seen is).1
    (c.canonical.ensures.eighteen.0 5 base64url_nopad_fields (lit< tt) seen is_built) in
    is_built-seen (λ base. c.args.token.now ≡ text_of base c.in-Ok.bytes.items)
    base64url_nopad_fields seen is_built
    (c.canonical.ensures.only seen is one c.args.token.now c.in-Ok.bytes.items
    c.in-Ok.ensures.means)

pub returns-in-Err-Error-clause-some : goal.returns-in-Err-Error-clause-some
returns-in-Err-Error-clause-some c =
    is_built-seen (λ base. (false ≡ true)
    ↔ ((bytes : List ℕ) × Means base c.args.token.now bytes)) base64url_nopad_fields
    c.base64url_nopad.result c.base64url_nopad.ensures (
      (λ never. absurd (false≢true never)),
      (λ found. ⊎_elim (λ none. none)
          (λ memory. absurd (error-not-memory c.decode.result c.in-Err-Error.field-0
          c.in-Err-Error.field-0-0 c.in-Err-Error.field-0-is c.in-Err-Error.is
          (c.in-Err-Error.is ∙ memory)))
          (c.in-Err-Error.ensures.accepted found.0 found.1)),
    )
