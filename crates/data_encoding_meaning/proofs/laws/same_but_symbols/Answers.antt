use Rattle.std.proofs.Common.{sym}
use Rattle.data_encoding_meaning.proofs.canonicity.ExchangedTextLemmas.{Means-both, Means-exchanged, fault_of-both, fault_of-exchanged, reversed}
use Rattle.data_encoding_meaning.proofs.judgement.RuleLemmas.{IsRuled-built}
use Rattle.data_encoding_meaning.proofs.text.ExchangeLemmas.{text_of-exchanged}
use Rattle.data_encoding_meaning.proofs.laws.same_but_symbols.Goals as goal

pub returns-clause-text : goal.returns-clause-text
returns-clause-text c = λ base other is.
    text_of-exchanged base other (IsRuled-built is.fields base is.is_built)

pub returns-clause-both : goal.returns-clause-both
returns-clause-both c = λ base other is also differ text another same.
    let one = IsRuled-built is.fields base is.is_built in
    let two = IsRuled-built also.fields other also.is_built in (
      fault_of-both base other one two differ text another same,
      (λ bytes. (
        Means-both base other one two differ text another same bytes,
        Means-both other base two one (reversed base other differ) another text (sym same) bytes,
      )),
    )

pub returns-clause-means : goal.returns-clause-means
returns-clause-means c = λ base other is also.
    Means-exchanged base other (IsRuled-built is.fields base is.is_built)
    (IsRuled-built also.fields other also.is_built)

pub returns-clause-fault : goal.returns-clause-fault
returns-clause-fault c = λ base other is also.
    fault_of-exchanged base other (IsRuled-built is.fields base is.is_built)
    (IsRuled-built also.fields other also.is_built)
