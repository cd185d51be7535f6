use Rattle.data_encoding_meaning.proofs.decoding.SymbolLemmas.{symbols-first_other}
use Rattle.data_encoding_meaning.proofs.judgement.RuleLemmas.{IsRuled-built}
use Rattle.data_encoding_meaning.proofs.laws.symbols_told.Goals as goal

pub returns : goal.returns
returns c base is =
    let ruled = IsRuled-built is.fields base is.is_built in symbols-first_other base ruled.is_width
