-- Worked rows of faults that follow from bytes, and of the rules of the eighteen.
use Rattle.std.proofs.Common.{◌≡◌, ℕ, true, false, [], ◌∷◌, codes, Option, Some, None, refl}
use Rattle.data_encoding_meaning.specs.declared.error.DecodeError.{DecodeError}
use Rattle.data_encoding_meaning.specs.declared.error.DecodeKind.{DecodeKind}
use Rattle.data_encoding_meaning.specs.declared.error.DecodeKind.TheVariants.{Symbol, Trailing}
use Rattle.data_encoding_meaning.specs.laws.Rules.{HasRules, Rules, mime_rules, padded_rules, plain_rules, reversed_rules}
use Rattle.data_encoding_meaning.specs.laws.Told.{first_other, is_other, leaves_bits, told_by, told_fault}
use Rattle.data_encoding_meaning.specs.specification.Fields.{Fields}
use Rattle.data_encoding_meaning.specs.specification.Predefined.{base32_dnscurve_fields, base64_fields, base64_mime_fields, base64_nopad_fields, hexlower_fields, hexlower_permissive_fields}
use Rattle.data_encoding_meaning.proofs.vectors.Examples.{Has, Hold, by, unchecked}

abbrev at : DecodeKind → ℕ → Option (Option DecodeError)
at kind position = Some (Some (record { position = position; kind = kind }))

-- the fault is the first byte that is not a symbol, in any group, or else trailing bits
symbol_fault_in_any_group : Hold (λ text. by (λ base. told_fault base text) base64_nopad_fields) (
    (codes "SGVsbG8", Some None)
    ∷ (codes "SGV!bG!", at Symbol 3)
    ∷ (codes "SGVsbG9", at Trailing 6)
    ∷ (codes "SGVs!G9", at Symbol 4)
    ∷ ([], Some None)
    ∷ [])
symbol_fault_in_any_group = refl

-- trailing bits are not a fault if they are not checked
faults_unchecked : Hold (λ text.
    by (λ base. told_fault base text) (unchecked base64_nopad_fields)) (
    (codes "SGVsbG9", Some None)
    ∷ (codes "SGVsb-9", at Symbol 5)
    ∷ [])
faults_unchecked = refl

-- what the fault follows from
others_found :
    (by (λ base. is_other base 71) hexlower_fields ≡ Some true)
    × (by (λ base. is_other base 65) hexlower_permissive_fields ≡ Some false)
    × (by (λ base. first_other base (codes "4G4g")) hexlower_fields ≡ Some (Some 1))
    × (by (λ base. first_other base (codes "4a")) hexlower_fields ≡ Some None)
    × (by (λ base. leaves_bits base (codes "QR")) base64_nopad_fields ≡ Some true)
    × (by (λ base. leaves_bits base (codes "QQ")) base64_nopad_fields ≡ Some false)
    × (by (λ base. leaves_bits base (codes "QR")) (unchecked base64_nopad_fields) ≡ Some false)
others_found = (refl, refl, refl, refl, refl, refl, refl)

-- a byte that is not a symbol comes before trailing bits
symbol_before_trailing :
    (told_by (Some 3) true 7 ≡ Some (record { position = 3; kind = Symbol }))
    × (told_by None true 7 ≡ Some (record { position = 6; kind = Trailing }))
    × (told_by None false 7 ≡ None)
symbol_before_trailing = (refl, refl, refl)

abbrev ruled : (rules : Rules) → Fields → Type 0
ruled rules fields = Has fields (HasRules rules)

-- an encoding of each kind keeps the rules of its kind
each_kind_has_its_rules :
    ruled (plain_rules 4) hexlower_fields × ruled (padded_rules 6) base64_fields
    × ruled mime_rules base64_mime_fields × ruled (reversed_rules 5) base32_dnscurve_fields
each_kind_has_its_rules = (
  record {
    width = refl;
    order = refl;
    padding = refl;
    wrapping = refl;
    ignored = refl;
    ignores = refl;
    checks = refl;
    concatenates = refl;
  },
  record {
    width = refl;
    order = refl;
    padding = refl;
    wrapping = refl;
    ignored = refl;
    ignores = refl;
    checks = refl;
    concatenates = refl;
  },
  record {
    width = refl;
    order = refl;
    padding = refl;
    wrapping = refl;
    ignored = refl;
    ignores = refl;
    checks = refl;
    concatenates = refl;
  },
  record {
    width = refl;
    order = refl;
    padding = refl;
    wrapping = refl;
    ignored = refl;
    ignores = refl;
    checks = refl;
    concatenates = refl;
  },
)
