-- Worked rows of the law of the eighteen: what it says of each of them.
use Rattle.std.proofs.Common.{◌≡◌, ℕ, Bool, true, false, [], ◌∷◌, Some, None, refl}
use Rattle.data_encoding_meaning.specs.declared.encoding.BitOrder.{BitOrder}
use Rattle.data_encoding_meaning.specs.declared.encoding.BitOrder.TheVariants.{LeastSignificantFirst, MostSignificantFirst}
use Rattle.data_encoding_meaning.specs.text.Base.{Base, ignores_some}
use Rattle.data_encoding_meaning.specs.specification.Layout.{ignored_bytes}
use Rattle.data_encoding_meaning.specs.specification.Predefined.{base32_dnscurve_fields, base32_dnssec_fields, base32_fields, base32_nopad_fields, base32_nopad_nocase_fields, base32_nopad_visual_fields, base32hex_fields, base32hex_nopad_fields, base64_fields, base64_mime_fields, base64_mime_permissive_fields, base64_nopad_fields, base64url_fields, base64url_nopad_fields, hexlower_fields, hexlower_permissive_fields, hexupper_fields, hexupper_permissive_fields}
use Rattle.data_encoding_meaning.specs.laws.Rules.{EighteenRules, HasRules, mime_rules, padded_rules, plain_rules, reversed_rules}
use Rattle.data_encoding_meaning.proofs.vectors.Examples.{built}

-- symbols of this many bits alone: no padding, no lines, no byte that is ignored
abbrev IsPlain : BitOrder → ℕ → Base → Type 0
IsPlain order width base =
    (base.width ≡ width) × (base.order ≡ order) × (base.padding ≡ None) × (base.wrapping ≡ None)
    × (ignored_bytes base ≡ []) × (ignores_some base ≡ false)
    × (base.checks_trailing_bits ≡ true) × (base.concatenates ≡ true)

-- with `=` as padding
abbrev IsPadded : ℕ → Base → Type 0
IsPadded width base =
    (base.width ≡ width) × (base.order ≡ MostSignificantFirst) × (base.padding ≡ Some 61)
    × (base.wrapping ≡ None) × (ignored_bytes base ≡ []) × (ignores_some base ≡ false)
    × (base.checks_trailing_bits ≡ true) × (base.concatenates ≡ true)

-- and in lines of 76 that end with CR LF, whether trailing bits are checked or not
abbrev IsMime : Bool → Base → Type 0
IsMime checks base =
    (base.width ≡ 6) × (base.order ≡ MostSignificantFirst) × (base.padding ≡ Some 61)
    × (base.wrapping ≡ Some (record { column = 76; separator = 13 ∷ 10 ∷ [] }))
    × (ignored_bytes base ≡ 10 ∷ 13 ∷ []) × (ignores_some base ≡ true)
    × (base.checks_trailing_bits ≡ checks) × (base.concatenates ≡ true)

-- the properties of a base of symbols alone follow from its rules
plain_by_rules : (width : ℕ) (base : Base) → HasRules (plain_rules width) base
    → IsPlain MostSignificantFirst width base
plain_by_rules width base has = (
  has.width,
  has.order,
  has.padding,
  has.wrapping,
  has.ignored,
  has.ignores,
  has.checks,
  has.concatenates,
)

-- and if the least significant bit is first
reversed_by_rules : (width : ℕ) (base : Base) → HasRules (reversed_rules width) base
    → IsPlain LeastSignificantFirst width base
reversed_by_rules width base has = (
  has.width,
  has.order,
  has.padding,
  has.wrapping,
  has.ignored,
  has.ignores,
  has.checks,
  has.concatenates,
)

-- and with padding
padded_by_rules : (width : ℕ) (base : Base) → HasRules (padded_rules width) base
    → IsPadded width base
padded_by_rules width base has = (
  has.width,
  has.order,
  has.padding,
  has.wrapping,
  has.ignored,
  has.ignores,
  has.checks,
  has.concatenates,
)

-- and in lines
mime_by_rules : (checks : Bool) (base : Base)
    → HasRules (record mime_rules { checks_trailing_bits = checks }) base → IsMime checks base
mime_by_rules checks base has = (
  has.width,
  has.order,
  has.padding,
  has.wrapping,
  has.ignored,
  has.ignores,
  has.checks,
  has.concatenates,
)

-- the four of four bits
hexadecimal_ruled : EighteenRules
    → IsPlain MostSignificantFirst 4 (built hexlower_fields)
    × IsPlain MostSignificantFirst 4 (built hexlower_permissive_fields)
    × IsPlain MostSignificantFirst 4 (built hexupper_fields)
    × IsPlain MostSignificantFirst 4 (built hexupper_permissive_fields)
hexadecimal_ruled law = (
  plain_by_rules 4 _ (law.hexlower (built hexlower_fields) refl),
  plain_by_rules 4 _ (law.hexlower_permissive (built hexlower_permissive_fields) refl),
  plain_by_rules 4 _ (law.hexupper (built hexupper_fields) refl),
  plain_by_rules 4 _ (law.hexupper_permissive (built hexupper_permissive_fields) refl),
)

-- the eight of five bits, of which DNSCurve's has the least significant bit first
base32_ruled : EighteenRules
    → IsPadded 5 (built base32_fields)
    × IsPlain MostSignificantFirst 5 (built base32_nopad_fields)
    × IsPlain MostSignificantFirst 5 (built base32_nopad_nocase_fields)
    × IsPlain MostSignificantFirst 5 (built base32_nopad_visual_fields)
    × IsPadded 5 (built base32hex_fields)
    × IsPlain MostSignificantFirst 5 (built base32hex_nopad_fields)
    × IsPlain MostSignificantFirst 5 (built base32_dnssec_fields)
    × IsPlain LeastSignificantFirst 5 (built base32_dnscurve_fields)
base32_ruled law = (
  padded_by_rules 5 _ (law.base32 (built base32_fields) refl),
  plain_by_rules 5 _ (law.base32_nopad (built base32_nopad_fields) refl),
  plain_by_rules 5 _ (law.base32_nopad_nocase (built base32_nopad_nocase_fields) refl),
  plain_by_rules 5 _ (law.base32_nopad_visual (built base32_nopad_visual_fields) refl),
  padded_by_rules 5 _ (law.base32hex (built base32hex_fields) refl),
  plain_by_rules 5 _ (law.base32hex_nopad (built base32hex_nopad_fields) refl),
  plain_by_rules 5 _ (law.base32_dnssec (built base32_dnssec_fields) refl),
  reversed_by_rules 5 _ (law.base32_dnscurve (built base32_dnscurve_fields) refl),
)

-- the six of six bits, of which one does not check trailing bits
base64_ruled : EighteenRules
    → IsPadded 6 (built base64_fields)
    × IsPlain MostSignificantFirst 6 (built base64_nopad_fields)
    × IsMime true (built base64_mime_fields)
    × IsMime false (built base64_mime_permissive_fields)
    × IsPadded 6 (built base64url_fields)
    × IsPlain MostSignificantFirst 6 (built base64url_nopad_fields)
base64_ruled law = (
  padded_by_rules 6 _ (law.base64 (built base64_fields) refl),
  plain_by_rules 6 _ (law.base64_nopad (built base64_nopad_fields) refl),
  mime_by_rules true _ (law.base64_mime (built base64_mime_fields) refl),
  mime_by_rules false _ (law.base64_mime_permissive (built base64_mime_permissive_fields) refl),
  padded_by_rules 6 _ (law.base64url (built base64url_fields) refl),
  plain_by_rules 6 _ (law.base64url_nopad (built base64url_nopad_fields) refl),
)
