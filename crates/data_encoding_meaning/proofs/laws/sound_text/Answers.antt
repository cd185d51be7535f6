use Rattle.std.proofs.Common.{subst}
use Rattle.data_encoding_meaning.specs.text.Grammar.{Means}
use Rattle.data_encoding_meaning.proofs.grammar.MeaningLemmas.{Means-no_fault, no_fault-Means, sound_bytes-Means}
use Rattle.data_encoding_meaning.proofs.judgement.RuleLemmas.{IsRuled-built}
use Rattle.data_encoding_meaning.proofs.laws.sound_text.Goals as goal

pub returns-clause-sound : goal.returns-clause-sound
returns-clause-sound c base is text none =
    Means-no_fault base (IsRuled-built is.fields base is.is_built).is_width text none

pub returns-clause-meant : goal.returns-clause-meant
returns-clause-meant c base is text bytes =
    let width = (IsRuled-built is.fields base is.is_built).is_width in (
      (λ means. (
        no_fault-Means base width text bytes means,
        sound_bytes-Means base width text bytes means,
      )),
      (λ both. subst (Means base text) both.1 (Means-no_fault base width text both.0)),
    )
