use Rattle.data_encoding_meaning.proofs.judgement.RuleLemmas.{IsRuled-built}
use Rattle.data_encoding_meaning.proofs.text.TextMeaningLemmas.{Means-text_of}
use Rattle.data_encoding_meaning.proofs.laws.round_trip.Goals as goal

pub returns : goal.returns
returns c = λ base is. Means-text_of base (IsRuled-built is.fields base is.is_built)
