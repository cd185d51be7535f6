use Rattle.data_encoding_meaning.proofs.decoding.ResumeLemmas.{resumed}
use Rattle.data_encoding_meaning.proofs.judgement.RuleLemmas.{IsRuled-built}
use Rattle.data_encoding_meaning.proofs.laws.resume.Goals as goal

pub returns : goal.returns
returns c = λ base is. resumed base (IsRuled-built is.fields base is.is_built)
