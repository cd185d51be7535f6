use Rattle.data_encoding_meaning.proofs.grammar.TightLemmas.{length-plain_text_of, most-Means}
use Rattle.data_encoding_meaning.proofs.judgement.RuleLemmas.{IsRuled-built}
use Rattle.data_encoding_meaning.proofs.text.TextLengthLemmas.{length-again}
use Rattle.data_encoding_meaning.proofs.laws.tight.Goals as goal

pub returns-clause-most : goal.returns-clause-most
returns-clause-most c base is =
    most-Means base (IsRuled-built is.fields base is.is_built).is_width

pub returns-clause-again : goal.returns-clause-again
returns-clause-again c base is =
    length-again base (IsRuled-built is.fields base is.is_built).is_width

pub returns-clause-fixed : goal.returns-clause-fixed
returns-clause-fixed c base is =
    length-plain_text_of base (IsRuled-built is.fields base is.is_built)
