-- Facts about the base that fields have, and about texts in order.
use Rattle.std.proofs.Common.{◌≡◌, ◌==◌, ℕ, true, arith, Option, Some, None, Result, Ok, Err, subst}
use Rattle.std.proofs.lemmas.Bool.Decides.{nat_tests}
use Rattle.data_encoding.specs.declared.error.DecodeError.{DecodeError}
use Rattle.data_encoding.specs.declared.specification.meanings.Refusal.{Refusal}
use Rattle.data_encoding.specs.Base.{Base}
use Rattle.data_encoding.specs.Eighteen.{Builds}
use Rattle.data_encoding.specs.Fields.{Fields, base_of}
use Rattle.data_encoding.specs.Lengths.{unless_fault}
use Rattle.conformance.proofs.BuiltLemmas.{same_built}

-- a property of one base holds for each base of the fields
pub is_built-seen : (P : Base → Type 0) (fields : Fields) (seen : Base)
    → base_of fields ≡ Ok seen → P seen → Builds P fields
is_built-seen P fields seen is h base other =
    subst P (same_built (base_of fields) seen base is other) h

-- There is a base, and the property holds for it.
abbrev pub IsOfBase : (Base → Type 0) → Result Base Refusal → Type 0
IsOfBase P (Ok base) = P base
IsOfBase P (Err refusal) = ⊥

-- a property that is computed holds for the base
pub seen-holds : (P : Base → Type 0) (fields : Fields) (seen : Base) → base_of fields ≡ Ok seen
    → IsOfBase P (base_of fields) → P seen
seen-holds P fields seen is h = subst (IsOfBase P) is h

-- the number of bytes of a length without a fault
pub len-count : (o : Option DecodeError) (len count : ℕ) → unless_fault o len ≡ Ok count
    → len ≡ count
len-count None len count h = cc
len-count (Some fault) len count h = cc

pub equal-tested : (a b : ℕ) → a ≡ b → (a == b) ≡ true
equal-tested a b same = grind (arith, nat_tests)
