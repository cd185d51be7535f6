-- The predefined encodings by name, and by number in the order of the list.
use Rattle.std.specs.Prelude.{◌≡◌, ℕ, List, [], ◌∷◌, ◌++◌, codes, bytes_eq, flat_map, map, position, slice_get, slice_index_or, Option, Some, None, Ok}
use Rattle.data_encoding_meaning.specs.text.Base.{Base}
use Rattle.data_encoding_meaning.specs.specification.Fields.{Fields, base_of}
use Rattle.data_encoding_meaning.specs.specification.Predefined.{hexlower_fields, hexlower_permissive_fields, hexupper_fields, hexupper_permissive_fields, base32_fields, base32_nopad_fields, base32_nopad_nocase_fields, base32_nopad_visual_fields, base32hex_fields, base32hex_nopad_fields, base32_dnssec_fields, base32_dnscurve_fields, base64_fields, base64_nopad_fields, base64_mime_fields, base64_mime_permissive_fields, base64url_fields, base64url_nopad_fields}

-- Each name with its specification.
abbrev pub predefined : List (List ℕ × Fields)
predefined =
    (codes "HEXLOWER", hexlower_fields)
    ∷ (codes "HEXLOWER_PERMISSIVE", hexlower_permissive_fields)
    ∷ (codes "HEXUPPER", hexupper_fields)
    ∷ (codes "HEXUPPER_PERMISSIVE", hexupper_permissive_fields)
    ∷ (codes "BASE32", base32_fields)
    ∷ (codes "BASE32_NOPAD", base32_nopad_fields)
    ∷ (codes "BASE32_NOPAD_NOCASE", base32_nopad_nocase_fields)
    ∷ (codes "BASE32_NOPAD_VISUAL", base32_nopad_visual_fields)
    ∷ (codes "BASE32HEX", base32hex_fields)
    ∷ (codes "BASE32HEX_NOPAD", base32hex_nopad_fields)
    ∷ (codes "BASE32_DNSSEC", base32_dnssec_fields)
    ∷ (codes "BASE32_DNSCURVE", base32_dnscurve_fields)
    ∷ (codes "BASE64", base64_fields)
    ∷ (codes "BASE64_NOPAD", base64_nopad_fields)
    ∷ (codes "BASE64_MIME", base64_mime_fields)
    ∷ (codes "BASE64_MIME_PERMISSIVE", base64_mime_permissive_fields)
    ∷ (codes "BASE64URL", base64url_fields)
    ∷ (codes "BASE64URL_NOPAD", base64url_nopad_fields)
    ∷ []

-- The names, in order.
abbrev pub names : List (List ℕ)
names = map (λ (entry : List ℕ × Fields). entry.0) predefined

-- The names, each followed by LF.
abbrev pub listing : List ℕ
listing = flat_map (λ name. name ++ 10 ∷ []) names

-- The name with the given number, if there is one.
abbrev pub name_numbered : ℕ → Option (List ℕ)
name_numbered number = slice_get names number

-- The number of `name`, if it is known.
abbrev pub number_named : List ℕ → Option ℕ
number_named name = position (bytes_eq name) names

-- The specification with the given number, if there is one.
abbrev pub fields_numbered : ℕ → Option Fields
fields_numbered number =
    slice_index_or (map (λ (entry : List ℕ × Fields). Some entry.1) predefined) number None

-- The specification with the given number, if a number is given and there is one.
abbrev pub fields_at : Option ℕ → Option Fields
fields_at None = None
fields_at (Some number) = fields_numbered number

-- The specification with the given name, if it is known.
abbrev pub fields_named : List ℕ → Option Fields
fields_named name = fields_at (number_named name)

-- The base is built from the specification with the number `number`.
pub record IsNumbered (number : ℕ) (base : Base) : Type 0 where
  pub fields : Fields
  pub is_known : fields_numbered number ≡ Some fields
  pub is_built : base_of fields ≡ Ok base

-- The name is known, and the base is built from its specification.
pub record IsNamed (name : List ℕ) (base : Base) : Type 0 where
  pub fields : Fields
  pub is_known : fields_named name ≡ Some fields
  pub is_built : base_of fields ≡ Ok base
