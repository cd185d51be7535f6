use Rattle.std.proofs.Common.{sym, ◌∙◌}
use Rattle.data_encoding_meaning.proofs.grammar.MeaningLemmas.{sound_bytes-Means}
use Rattle.data_encoding_meaning.proofs.judgement.RuleLemmas.{IsRuled-built}
use Rattle.data_encoding_meaning.proofs.laws.one_meaning.Goals as goal

pub returns : goal.returns
returns c = λ base is text one other h k.
    let width = (IsRuled-built is.fields base is.is_built).is_width in
    sym (sound_bytes-Means base width text one h) ∙ sound_bytes-Means base width text other k
