use Rattle.data_encoding_meaning.proofs.judgement.RuleLemmas.{IsRuled-built}
use Rattle.data_encoding_meaning.proofs.tables.LayoutRuleLemmas.{layouts}
use Rattle.data_encoding_meaning.proofs.tables.OneLayoutLemmas.{one_layout}
use Rattle.data_encoding_meaning.proofs.laws.one_layout.Goals as goal

pub returns-clause-one : goal.returns-clause-one
returns-clause-one c a b is other =
    one_layout a b (IsRuled-built is.fields a is.is_built)
    (IsRuled-built other.fields b other.is_built)

pub returns-clause-rules : goal.returns-clause-rules
returns-clause-rules c = layouts
