use Rattle.data_encoding_meaning.proofs.canonicity.TokenLemmas.{length-token}
use Rattle.data_encoding_meaning.proofs.order.ComparedLemmas.{injective}
use Rattle.data_encoding_meaning.proofs.judgement.RuleLemmas.{IsRuled-built}
use Rattle.data_encoding_meaning.proofs.laws.injective.Goals as goal

pub returns-clause-differ : goal.returns-clause-differ
returns-clause-differ c base is = injective base (IsRuled-built is.fields base is.is_built)

pub returns-clause-length : goal.returns-clause-length
returns-clause-length c base is = length-token base (IsRuled-built is.fields base is.is_built)
