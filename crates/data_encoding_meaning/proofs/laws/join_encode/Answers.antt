use Rattle.data_encoding_meaning.proofs.judgement.RuleLemmas.{IsRuled-built}
use Rattle.data_encoding_meaning.proofs.text.TextJoinLemmas.{text_of-join}
use Rattle.data_encoding_meaning.proofs.text.BlockLemmas.{alignment-positive}
use Rattle.data_encoding_meaning.proofs.laws.join_encode.Goals as goal

pub returns-clause-join : goal.returns-clause-join
returns-clause-join c base specified a b whole =
    text_of-join base (IsRuled-built specified.fields base specified.is_built) a b whole

pub returns-clause-some : goal.returns-clause-some
returns-clause-some c base specified =
    alignment-positive base (IsRuled-built specified.fields base specified.is_built)
