use Rattle.data_encoding_meaning.proofs.decoding.FaultStaysLemmas.{fault-after, fault-stays, group_fault-stays}
use Rattle.data_encoding_meaning.proofs.judgement.RuleLemmas.{IsRuled-built}
use Rattle.data_encoding_meaning.proofs.laws.fault_stays.Goals as goal

pub returns-clause-groups : goal.returns-clause-groups
returns-clause-groups c base is text after error h valid =
    group_fault-stays base (IsRuled-built is.fields base is.is_built).is_width text after
    error valid
    h

pub returns-clause-text : goal.returns-clause-text
returns-clause-text c base is text after error whole h valid =
    fault-stays base (IsRuled-built is.fields base is.is_built).is_width text after error
    valid whole
    h

pub returns-clause-before : goal.returns-clause-before
returns-clause-before c base is text after error whole none h =
    fault-after base (IsRuled-built is.fields base is.is_built).is_width text after error whole none
    h
