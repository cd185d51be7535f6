-- The texts of a canonical base: how long they are, and in which order they come.
use Rattle.std.proofs.Common.{◌≡◌, ◌↔◌, ℕ, true, List, length, refl, sym, ap, ◌∙◌}
use Rattle.data_encoding_meaning.specs.text.Base.{Base}
use Rattle.data_encoding_meaning.specs.laws.Canonical.{IsCanonical, has_one_text}
use Rattle.data_encoding_meaning.specs.laws.Compared.{CompareAlike}
use Rattle.data_encoding_meaning.specs.text.Grammar.{Means}
use Rattle.data_encoding_meaning.specs.laws.Order.{IsOrdered}
use Rattle.data_encoding_meaning.specs.text.Text.{text_of}
use Rattle.data_encoding_meaning.proofs.canonicity.CauseLemmas.{canonical-by}
use Rattle.data_encoding_meaning.proofs.canonicity.OneTextLemmas.{Means-text_of_only, no_lines-only}
use Rattle.data_encoding_meaning.proofs.grammar.TightLemmas.{are_bytes-Means}
use Rattle.data_encoding_meaning.proofs.order.ComparedLemmas.{data-alike}
use Rattle.data_encoding_meaning.proofs.judgement.RuleLemmas.{IsRuled}
use Rattle.data_encoding_meaning.proofs.text.TextLengthLemmas.{text-same}

module _ (base : Base) (ruled : IsRuled base) where
  pub canonical-causes : (has_one_text base ≡ true) ↔ IsCanonical base
  canonical-causes = canonical-by base ruled (has_one_text base) refl

  module _ (one : IsCanonical base) where
    pub own-Means : (text bytes : List ℕ) → Means base text bytes → text ≡ text_of base bytes
    own-Means = Means-text_of_only base ruled (canonical-causes.1 one)

    pub length-token : (text bytes others : List ℕ) → Means base text bytes
        → length others ≡ length bytes → length text ≡ length (text_of base others)
    length-token text bytes others means same =
        ap length (own-Means text bytes means)
        ∙ text-same base ruled bytes others (sym same)

    pub texts-alike : IsOrdered base → (text other bytes others : List ℕ)
        → Means base text bytes → Means base other others
        → CompareAlike bytes others text other
    texts-alike ordered text other bytes others means other_means =
        rw (own-Means text bytes means, own-Means other others other_means)
        (data-alike base ruled (no_lines-only base ruled (canonical-causes.1 one)) ordered bytes
        others (are_bytes-Means base text bytes means)
        (are_bytes-Means base other others other_means))
