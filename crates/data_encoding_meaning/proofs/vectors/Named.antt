-- Worked rows of the names and the numbers of the predefined encodings.
use Rattle.std.proofs.Common.{◌≡◌, [], ◌∷◌, ◌++◌, codes, length, take, Some, None, refl}
use Rattle.data_encoding_meaning.specs.specification.Named.{IsNamed, IsNumbered, fields_at, fields_named, fields_numbered, listing, name_numbered, names, number_named, predefined}
use Rattle.data_encoding_meaning.specs.specification.Predefined.{base64_fields, base64url_nopad_fields}
use Rattle.data_encoding_meaning.proofs.vectors.Examples.{Has}

names_known :
    (length predefined ≡ 18) × (length names ≡ 18)
    × (fields_named (codes "BASE64") ≡ Some base64_fields)
    × (fields_named (codes "base64") ≡ None)
    × (take 9 listing ≡ codes "HEXLOWER" ++ 10 ∷ [])
names_known = (refl, refl, refl, refl, refl)

numbers_known :
    (number_named (codes "BASE64") ≡ Some 12) × (number_named (codes "base64") ≡ None)
    × (name_numbered 12 ≡ Some (codes "BASE64")) × (name_numbered 18 ≡ None)
    × (fields_numbered 17 ≡ Some base64url_nopad_fields) × (fields_numbered 18 ≡ None)
    × (fields_at (Some 12) ≡ Some base64_fields) × (fields_at None ≡ None)
numbers_known = (refl, refl, refl, refl, refl, refl, refl, refl)

base64_known : Has base64_fields (λ base. IsNamed (codes "BASE64") base × IsNumbered 12 base)
base64_known = (
  record { fields = base64_fields; is_known = refl; is_built = refl },
  record { fields = base64_fields; is_known = refl; is_built = refl },
)
