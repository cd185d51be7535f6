use Rattle.data_encoding_meaning.proofs.judgement.RoundTripLemmas.{specification-again}
use Rattle.data_encoding_meaning.proofs.laws.specification_again.Goals as goal

pub returns : goal.returns
returns c = specification-again
