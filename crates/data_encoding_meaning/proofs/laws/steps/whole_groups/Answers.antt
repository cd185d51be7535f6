use Rattle.data_encoding_meaning.specs.text.Grammar.{positioned}
use Rattle.data_encoding_meaning.proofs.decoding.FinalGroupLemmas.{ends-Means, whole-Means}
use Rattle.data_encoding_meaning.proofs.decoding.WholeLengthLemmas.{decoded_len-whole, joins-unpadded, most_bytes-few, none_final-joined}
use Rattle.data_encoding_meaning.proofs.grammar.PositionLemmas.{filter-plain, never_ignored}
use Rattle.data_encoding_meaning.proofs.judgement.RuleLemmas.{IsRuled-built}
use Rattle.data_encoding_meaning.proofs.laws.steps.whole_groups.Goals as goal

pub returns-clause-bytes : goal.returns-clause-bytes
returns-clause-bytes c base is count =
    decoded_len-whole base (IsRuled-built is.fields base is.is_built).is_width count

pub returns-clause-most : goal.returns-clause-most
returns-clause-most c base is len =
    most_bytes-few base (IsRuled-built is.fields base is.is_built).is_width len

pub returns-clause-kept : goal.returns-clause-kept
returns-clause-kept c base none =
    (never_ignored base none, λ text. filter-plain base none (positioned text))

pub returns-clause-joins : goal.returns-clause-joins
returns-clause-joins c base is unpadded =
    joins-unpadded base (IsRuled-built is.fields base is.is_built) unpadded

pub returns-clause-ends_nowhere : goal.returns-clause-ends_nowhere
returns-clause-ends_nowhere c base joins parts = none_final-joined base joins parts

pub returns-clause-ends : goal.returns-clause-ends
returns-clause-ends c base is text bytes means =
    ends-Means base (IsRuled-built is.fields base is.is_built) text bytes means

pub returns-clause-whole : goal.returns-clause-whole
returns-clause-whole c base is text bytes means exact =
    whole-Means base (IsRuled-built is.fields base is.is_built) text bytes means exact
