-- The predefined encodings that are canonical, and those that keep the order of data.
use Rattle.std.specs.Prelude.{◌≡◌, ◌↔◌, true, List, [], ◌∷◌, All, Ok}
use Rattle.data_encoding_meaning.specs.text.Base.{Base}
use Rattle.data_encoding_meaning.specs.laws.Canonical.{IsCanonical, has_one_text}
use Rattle.data_encoding_meaning.specs.specification.Fields.{Fields, base_of, IsSpecified}
use Rattle.data_encoding_meaning.specs.laws.Order.{IsOrdered}
use Rattle.data_encoding_meaning.specs.specification.Predefined.{hexlower_fields, hexlower_permissive_fields, hexupper_fields, hexupper_permissive_fields, base32_fields, base32_nopad_fields, base32_nopad_nocase_fields, base32_nopad_visual_fields, base32hex_fields, base32hex_nopad_fields, base32_dnssec_fields, base32_dnscurve_fields, base64_fields, base64_nopad_fields, base64_mime_fields, base64_mime_permissive_fields, base64url_fields, base64url_nopad_fields}

-- A base is canonical if and only if no cause of a second text exists.
abbrev pub CanonicalByCauses : Type 0
CanonicalByCauses =
    (base : Base) → IsSpecified base → (has_one_text base ≡ true) ↔ IsCanonical base

-- The base that is built from `fields` has the property `P`.
abbrev pub Builds : (Base → Type 0) → Fields → Type 0
Builds P fields = (base : Base) → base_of fields ≡ Ok base → P base

-- The fields of the six predefined encodings that are canonical.
abbrev pub canonical_fields : List Fields
canonical_fields =
    hexlower_fields ∷ hexupper_fields ∷ base32_nopad_fields ∷ base32hex_nopad_fields
    ∷ base64_nopad_fields ∷ base64url_nopad_fields ∷ []

-- The fields of the twelve predefined encodings that are not canonical.
abbrev pub second_text_fields : List Fields
second_text_fields =
    hexlower_permissive_fields ∷ hexupper_permissive_fields ∷ base32_fields
    ∷ base32_nopad_nocase_fields ∷ base32_nopad_visual_fields ∷ base32hex_fields
    ∷ base32_dnssec_fields ∷ base32_dnscurve_fields ∷ base64_fields ∷ base64_mime_fields
    ∷ base64_mime_permissive_fields ∷ base64url_fields ∷ []

-- Six of the eighteen are canonical, and the other twelve are not.
abbrev pub SixAreCanonical : Type 0
SixAreCanonical =
    All (Builds IsCanonical) canonical_fields
    × All (Builds (λ base. IsCanonical base → ⊥)) second_text_fields

-- The fields of the six predefined encodings without lines that keep the order of data.
abbrev pub ordered_fields : List Fields
ordered_fields =
    hexlower_fields ∷ hexlower_permissive_fields ∷ hexupper_fields ∷ hexupper_permissive_fields
    ∷ base32hex_nopad_fields ∷ base32_dnssec_fields ∷ []

-- The fields of the ten predefined encodings without lines that do not keep the order of data.
abbrev pub unordered_fields : List Fields
unordered_fields =
    base32_fields ∷ base32_nopad_fields ∷ base32_nopad_nocase_fields ∷ base32_nopad_visual_fields
    ∷ base32hex_fields ∷ base32_dnscurve_fields ∷ base64_fields ∷ base64_nopad_fields
    ∷ base64url_fields ∷ base64url_nopad_fields ∷ []

-- Of the sixteen without lines, six are ordered, and the other ten are not.
abbrev pub SixAreOrdered : Type 0
SixAreOrdered =
    All (Builds IsOrdered) ordered_fields
    × All (Builds (λ base. IsOrdered base → ⊥)) unordered_fields
