use Rattle.data_encoding_meaning.proofs.grammar.JoinLemmas.{Means-join}
use Rattle.data_encoding_meaning.proofs.judgement.RuleLemmas.{IsRuled-built}
use Rattle.data_encoding_meaning.proofs.laws.join_decode.Goals as goal

pub returns : goal.returns
returns c = λ base is.
    Means-join base (IsRuled-built is.fields base is.is_built)
