use Rattle.std.proofs.lemmas.Bool.{false≢true}
use Rattle.std.proofs.Common.{⊎_elim, ◌<◌, ◌∙◌, sym, subst}
use Rattle.std.proofs.lemmas.List.Elements.{All-from_get_or}
use Rattle.std.specs.Prelude.{All}
use Rattle.data_encoding.specs.Grammar.{Means}
use Rattle.conformance.proofs.FaultLemmas.{error-not-memory}
use Rattle.conformance.proofs.callers.there_and_back.Goals as goal

pub returns-in-Ok-decode-clause-same : goal.returns-in-Ok-decode-clause-same
returns-in-Ok-decode-clause-same c =
    let base = c.in-Ok.encoding in
    let is = c.bit_width-width.ensures.base in
    let input = c.args.input.now in
    let text = c.as_bytes.result.now in
    let fits : All (λ byte. byte < 256) input =
    All-from_get_or (λ byte. byte < 256) input 0 (λ k h. (c.type_inv.input k).fits) in
    let means : Means base text input =
    subst (λ t. Means base t input) (sym (c.as_bytes.ensures.value ∙ c.in_ok-text.ensures.text))
    (c.round_trip.ensures base is input fits) in
    c.one_meaning.ensures base is text _ _ c.in-Ok-decode.ensures.means means

pub returns-in-Err-Error-clause-no_fault : goal.returns-in-Err-Error-clause-no_fault
returns-in-Err-Error-clause-no_fault c =
    let base = c.in-Ok.encoding in
    let is = c.bit_width-width.ensures.base in
    let input = c.args.input.now in
    let text = c.as_bytes.result.now in
    let fits : All (λ byte. byte < 256) input =
    All-from_get_or (λ byte. byte < 256) input 0 (λ k h. (c.type_inv.input k).fits) in
    let means : Means base text input =
    subst (λ t. Means base t input) (sym (c.as_bytes.ensures.value ∙ c.in_ok-text.ensures.text))
    (c.round_trip.ensures base is input fits) in
    λ error h. ⊎_elim (λ none. false≢true none)
    (λ memory. error-not-memory c.decode.result c.in-Err-Error.field-0 c.in-Err-Error.error
    c.in-Err-Error.field-0-is c.in-Err-Error.is (c.in-Err-Error.is ∙ memory))
    (c.in-Err-Error.ensures.accepted input means)
