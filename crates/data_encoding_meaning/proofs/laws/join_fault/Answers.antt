use Rattle.data_encoding_meaning.proofs.grammar.JoinFaultLemmas.{fault-join, sound_bytes-join}
use Rattle.data_encoding_meaning.proofs.judgement.RuleLemmas.{IsRuled-built}
use Rattle.data_encoding_meaning.proofs.laws.join_fault.Goals as goal

pub returns : goal.returns
returns c = λ base is text after bytes follows means.
    let ruled = IsRuled-built is.fields base is.is_built in (
      fault-join base ruled text after bytes follows means,
      sound_bytes-join base ruled text after bytes follows means,
    )
