-- What holds for the base that fields are computed to have holds for each base that is built from
-- them.
use Rattle.std.proofs.Common.{◌≡◌, Bool, true, false, List, [], ◌∷◌, Result, Ok, Err, All, sym, ap, ◌∙◌, subst}
use Rattle.std.proofs.lemmas.List.Elements.{All-from_recursion}
use Rattle.std.specs.Cmp.{first_so, second_so}
use Rattle.std.specs.List.{AllByRecursion, list_all}
use Rattle.data_encoding_meaning.specs.declared.refusal.Refusal.{Refusal}
use Rattle.data_encoding_meaning.specs.text.Base.{Base}
use Rattle.data_encoding_meaning.specs.laws.Eighteen.{Builds}
use Rattle.data_encoding_meaning.specs.specification.Fields.{Fields, base_of}
use Rattle.data_encoding_meaning.proofs.judgement.RuleLemmas.{IsRuled, IsRuled-built}

-- There is a base, and the property holds for it.
abbrev pub IsOfBase : (Base → Type 0) → Result Base Refusal → Type 0
IsOfBase P (Ok base) = P base
IsOfBase P (Err refusal) = ⊥

pub Builds-by : (P : Base → Type 0) (fields : Fields) → IsOfBase P (base_of fields)
    → Builds P fields
Builds-by P fields h base is = subst (IsOfBase P) is h

-- There is a base, and it passes the test.
abbrev pub passes : (Base → Bool) → Result Base Refusal → Bool
passes test (Ok base) = test base
passes test (Err refusal) = false

-- what a test shows of the base of each of these fields
pub Builds-all : (P : Base → Type 0) (test : Base → Bool)
    → ((base : Base) → IsRuled base → test base ≡ true → P base) → (all : List Fields)
    → list_all (λ fields. passes test (base_of fields)) all ≡ true → All (Builds P) all
Builds-all P test step all h = All-from_recursion (Builds P) all (each all h) where
  each : (some : List Fields) → list_all (λ fields. passes test (base_of fields)) some ≡ true
      → AllByRecursion (Builds P) some
  each [] h = tt
  each (fields ∷ some) h =
      let shown = λ (f : Fields). passes test (base_of f) in (
        λ base is.
            step base (IsRuled-built fields base is)
            (sym (ap (passes test) is) ∙ first_so (shown fields) (list_all shown some) h),
        each some (second_so (shown fields) (list_all shown some) h),
      )
