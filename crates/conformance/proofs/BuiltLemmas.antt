-- The base that is built from a specification.
use Rattle.std.proofs.Common.{◌≡◌, ℕ, zero, suc, List, length, Option, Some, None, Result, Ok, Err, refl, sym, ap, ◌∙◌}
use Rattle.data_encoding.specs.declared.encoding.Character.{Character}
use Rattle.data_encoding.specs.declared.specification.meanings.Refusal.{Refusal}
use Rattle.data_encoding.specs.Base.{Base}
use Rattle.data_encoding.specs.Fields.{Fields, base_of, base_by, base_with, judgements, meanings_of, width_of}

-- one base, and no refusal
pub same_built : (result : Result Base Refusal) (base other : Base) → result ≡ Ok base
    → result ≡ Ok other → base ≡ other
same_built result base other h k = cc

pub no_refusal : (result : Result Base Refusal) (base : Base) (refusal : Refusal)
    → result ≡ Ok base → result ≡ Err refusal → ⊥
no_refusal result base refusal h k = cc

symbols_in : Result Base Refusal → List ℕ → List ℕ
symbols_in (Ok base) otherwise = base.symbols
symbols_in (Err refusal) otherwise = otherwise

module _ (fields : Fields) where
  symbols-with : (width : ℕ) (meanings : Result (List Character) Refusal)
      → symbols_in (base_with width fields meanings) fields.symbols ≡ fields.symbols
  unfolding symbols_in
  symbols-with width (Ok meanings) = refl
  symbols-with width (Err refusal) = refl

  symbols-by : (width : Option ℕ)
      → symbols_in (base_by width fields) fields.symbols ≡ fields.symbols
  unfolding symbols_in
  symbols-by None = refl
  symbols-by (Some zero) = refl
  symbols-by (Some (suc n)) =
      symbols-with (suc n) (meanings_of (judgements (suc n) fields))

  -- the symbols are the symbols of the fields
  pub symbols-built : (base : Base) → base_of fields ≡ Ok base → base.symbols ≡ fields.symbols
  unfolding symbols_in
  symbols-built base is =
      sym (ap (λ r. symbols_in r fields.symbols) is) ∙ symbols-by (width_of (length fields.symbols))
