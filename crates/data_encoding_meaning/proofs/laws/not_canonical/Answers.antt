use Rattle.data_encoding_meaning.proofs.canonicity.ConcatenatedTextLemmas.{concatenated-second}
use Rattle.data_encoding_meaning.proofs.canonicity.IgnoredTextLemmas.{ignored-second}
use Rattle.data_encoding_meaning.proofs.canonicity.TrailingTextLemmas.{trailing-second}
use Rattle.data_encoding_meaning.proofs.canonicity.TranslatedTextLemmas.{padding-second, symbol-second}
use Rattle.data_encoding_meaning.proofs.judgement.RuleLemmas.{IsRuled-built}
use Rattle.data_encoding_meaning.proofs.laws.not_canonical.Goals as goal

pub returns : goal.returns
returns c = λ base is.
    let ruled = IsRuled-built is.fields base is.is_built in (
      ignored-second base ruled,
      trailing-second base ruled,
      concatenated-second base ruled,
      symbol-second base ruled,
      padding-second base ruled,
    )
