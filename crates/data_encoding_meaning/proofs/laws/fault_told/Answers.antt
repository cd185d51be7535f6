use Rattle.std.proofs.Common.{◌∙◌, sym, ap, is_some, length}
use Rattle.data_encoding_meaning.specs.laws.Told.{first_other, leaves_bits}
use Rattle.data_encoding_meaning.proofs.decoding.ByteFaultLemmas.{fault_of-bytes, fault_of-whole, leaves-some, symbol-fault, trailing-fault}
use Rattle.data_encoding_meaning.proofs.decoding.WholeLengthLemmas.{joins-unpadded}
use Rattle.data_encoding_meaning.proofs.judgement.RuleLemmas.{IsRuled-built, whole-unpadded}
use Rattle.data_encoding_meaning.proofs.laws.fault_told.Goals as goal

pub returns-clause-told : goal.returns-clause-told
returns-clause-told c base is unpadded =
    let ruled = IsRuled-built is.fields base is.is_built in
    fault_of-bytes base ruled.is_width (ap is_some unpadded) (joins-unpadded base ruled unpadded)

pub returns-clause-whole : goal.returns-clause-whole
returns-clause-whole c base is eight none text no_fault =
    let ruled = IsRuled-built is.fields base is.is_built in
    let unpadded = whole-unpadded base base.padding ruled.padding eight in
    fault_of-whole base ruled.is_width (ap is_some unpadded) (joins-unpadded base ruled unpadded)
    none text no_fault eight

pub returns-clause-symbol : goal.returns-clause-symbol
returns-clause-symbol c base is unpadded none text no_fault index =
    let fault_is = returns-clause-told c base is unpadded none text no_fault in
    let by = symbol-fault (first_other base text) (leaves_bits base text) (length text) index in
    (λ h. by.0 (sym fault_is ∙ h), λ h. fault_is ∙ by.1 h)

pub returns-clause-trailing : goal.returns-clause-trailing
returns-clause-trailing c base is unpadded none text no_fault index =
    let fault_is = returns-clause-told c base is unpadded none text no_fault in
    let by = trailing-fault (first_other base text) (leaves_bits base text) (length text) index
    (leaves-some base text) in
    (λ h. by.0 (sym fault_is ∙ h), λ h. fault_is ∙ by.1 h)
