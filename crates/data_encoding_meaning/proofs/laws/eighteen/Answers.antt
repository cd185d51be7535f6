use Rattle.data_encoding_meaning.proofs.canonicity.EighteenRuleLemmas.{eighteen-rules}
use Rattle.data_encoding_meaning.proofs.laws.eighteen.Goals as goal

pub returns : goal.returns
returns c = eighteen-rules
