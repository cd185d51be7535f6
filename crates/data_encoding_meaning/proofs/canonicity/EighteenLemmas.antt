-- Which of the eighteen are canonical.
use Rattle.std.proofs.Common.{not, refl, sym, ap, ◌∙◌, All}
use Rattle.std.proofs.lemmas.Bool.{false≢true}
use Rattle.data_encoding_meaning.specs.laws.Canonical.{IsCanonical, has_one_text}
use Rattle.data_encoding_meaning.specs.laws.Eighteen.{Builds, canonical_fields, second_text_fields}
use Rattle.data_encoding_meaning.proofs.canonicity.TokenLemmas.{canonical-causes}
use Rattle.data_encoding_meaning.proofs.judgement.BuiltLemmas.{Builds-all}

pub six-canonical : All (Builds IsCanonical) canonical_fields
six-canonical =
    Builds-all IsCanonical has_one_text (λ base ruled. (canonical-causes base ruled).0)
    canonical_fields refl

pub twelve-not : All (Builds (λ base. IsCanonical base → ⊥)) second_text_fields
twelve-not =
    Builds-all (λ base. IsCanonical base → ⊥) (λ base. not (has_one_text base))
    (λ base ruled none one.
    false≢true (sym (ap not ((canonical-causes base ruled).1 one)) ∙ none))
    second_text_fields refl
