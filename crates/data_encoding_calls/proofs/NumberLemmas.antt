-- A number has one base.
use Rattle.std.proofs.Common.{◌≡◌, ℕ, None, Some, Result, Ok, refl, sym, ap, ◌∙◌, subst}
use Rattle.data_encoding.specs.declared.specification.meanings.Refusal.{Refusal}
use Rattle.data_encoding.specs.Base.{Base}
use Rattle.data_encoding.specs.Fields.{Fields, base_of}
use Rattle.data_encoding.specs.Named.{IsNumbered, fields_numbered}
use Rattle.data_encoding_calls.specs.Calls.{ByNumber}
use Rattle.data_encoding_calls.specs.Status.{unknown_encoding}

some-one : {one other : Fields} → Some one ≡ Some other → one ≡ other
some-one is = cc

ok-one : {one other : Base} → ◌≡◌ {A = Result Base Refusal} (Ok one) (Ok other) → one ≡ other
ok-one is = cc

one-base : (number : ℕ) (one other : Base) → IsNumbered number one → IsNumbered number other
    → one ≡ other
one-base number one other h k =
    let same = some-one (sym h.is_known ∙ k.is_known) in
    ok-one (sym h.is_built ∙ ap base_of same ∙ k.is_built)

some-none : {fields : Fields} → Some fields ≡ None → ⊥
some-none is = absurd (cc is)

-- what is done by the base of a number
pub by-known : {number answer : ℕ} {Unchanged : Type 0} (Does : Base → Type 0) {base : Base}
    → IsNumbered number base → Does base → ByNumber number answer Unchanged Does
by-known {number} Does {base} is does = record {
  known = λ other same. subst Does (one-base number base other is same) does;
  unknown = λ none. absurd (some-none (sym is.is_known ∙ none));
}

-- a number of no encoding
pub by-unknown : {number : ℕ} {Unchanged : Type 0} {Does : Base → Type 0}
    → fields_numbered number ≡ None → Unchanged
    → ByNumber number unknown_encoding Unchanged Does
by-unknown none unchanged = record {
  known = λ base same. absurd (some-none (sym same.is_known ∙ none));
  unknown = λ _. (refl, unchanged);
}
