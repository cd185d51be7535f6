use Rattle.std.proofs.Common.{refl}
use Rattle.data_encoding_meaning.proofs.canonicity.OneTextLemmas.{own_form-text, own_forms}
use Rattle.data_encoding_meaning.proofs.canonicity.OwnTextLemmas.{own_form-meaning}
use Rattle.data_encoding_meaning.proofs.grammar.SameMeaningLemmas.{fault_of-alike, Means-alike_in}
use Rattle.data_encoding_meaning.proofs.judgement.RuleLemmas.{IsRuled-built}
use Rattle.data_encoding_meaning.proofs.laws.translated.Goals as goal

pub returns-clause-same : goal.returns-clause-same
returns-clause-same c = λ base is text other same.
    let width = (IsRuled-built is.fields base is.is_built).is_width in (
      fault_of-alike base base refl width text other same refl,
      Means-alike_in base base refl width text other same,
    )

pub returns-clause-own_form : goal.returns-clause-own_form
returns-clause-own_form c = λ base is.
    own_form-meaning base (IsRuled-built is.fields base is.is_built)

pub returns-clause-own_forms : goal.returns-clause-own_forms
returns-clause-own_forms c = λ base is.
    own_forms base (IsRuled-built is.fields base is.is_built)

pub returns-clause-text : goal.returns-clause-text
returns-clause-text c = λ base is.
    own_form-text base (IsRuled-built is.fields base is.is_built)
