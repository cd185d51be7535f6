use Rattle.data_encoding_meaning.proofs.canonicity.EighteenLemmas.{six-canonical, twelve-not}
use Rattle.data_encoding_meaning.proofs.canonicity.OneTextLemmas.{Means-text_of_only}
use Rattle.data_encoding_meaning.proofs.canonicity.TokenLemmas.{canonical-causes}
use Rattle.data_encoding_meaning.proofs.judgement.RuleLemmas.{IsRuled-built}
use Rattle.data_encoding_meaning.proofs.laws.canonical.Goals as goal

pub returns-clause-only : goal.returns-clause-only
returns-clause-only c base is =
    Means-text_of_only base (IsRuled-built is.fields base is.is_built)

pub returns-clause-causes : goal.returns-clause-causes
returns-clause-causes c base is = canonical-causes base (IsRuled-built is.fields base is.is_built)

pub returns-clause-eighteen : goal.returns-clause-eighteen
returns-clause-eighteen c = (six-canonical, twelve-not)
