use Rattle.std.proofs.Common.{sym, ◌∙◌}
use Rattle.data_encoding_meaning.proofs.canonicity.CauseLemmas.{canonical-by}
use Rattle.data_encoding_meaning.proofs.canonicity.TranslatedLemmas.{has_one_text-by, not_one_text}
use Rattle.data_encoding_meaning.proofs.judgement.RuleLemmas.{IsRuled-built}
use Rattle.data_encoding.proofs.encoding.EncodingRef.is_canonical.Goals as goal

pub returns-then-has_one_meaning : goal.returns-then-has_one_meaning
returns-then-has_one_meaning c =
    let base = c.args.self.now in
    let specified = c.has_one_meaning.ensures.base in
    let is = has_one_text-by base c.translates.result c.translates.ensures
    (sym c.if-has_one_meaning.true ∙ c.has_one_meaning.ensures.value) in
    record {
      canonical = canonical-by base (IsRuled-built specified.fields base specified.is_built) _ is;
      causes = is;
    }

pub returns-else-has_one_meaning : goal.returns-else-has_one_meaning
returns-else-has_one_meaning c =
    let base = c.args.self.now in
    let specified = c.has_one_meaning.ensures.base in
    let is = c.if-has_one_meaning.false
    ∙ not_one_text base (sym c.if-has_one_meaning.false ∙ c.has_one_meaning.ensures.value) in
    record {
      canonical = canonical-by base (IsRuled-built specified.fields base specified.is_built) _ is;
      causes = is;
    }
