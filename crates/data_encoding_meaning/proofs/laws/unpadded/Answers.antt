use Rattle.std.proofs.Common.{is_some, ap}
use Rattle.data_encoding_meaning.proofs.grammar.UnpaddedGrammarLemmas.{unpadded-Means}
use Rattle.data_encoding_meaning.proofs.judgement.RuleLemmas.{IsRuled-built}
use Rattle.data_encoding_meaning.proofs.laws.unpadded.Goals as goal

pub returns : goal.returns
returns c = λ base is none.
    unpadded-Means base (IsRuled-built is.fields base is.is_built).is_width (ap is_some none)
