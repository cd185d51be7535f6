use Rattle.std.proofs.Common.{sym, ◌∙◌}
use Rattle.data_encoding_meaning.proofs.grammar.SameBytesLemmas.{bytes-kept_in, Means-same}
use Rattle.data_encoding_meaning.proofs.judgement.RuleLemmas.{IsRuled-built}
use Rattle.data_encoding_meaning.proofs.laws.same_kept_bytes.Goals as goal

pub returns : goal.returns
returns c = λ base is text other bytes same.
    Means-same base (IsRuled-built is.fields base is.is_built).is_width text other bytes
    (bytes-kept_in base 0 text ∙ same ∙ sym (bytes-kept_in base 0 other))
