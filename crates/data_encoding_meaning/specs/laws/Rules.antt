-- The rules of the predefined encodings, by name.
use Rattle.std.specs.Prelude.{◌≡◌, ◌==◌, ℕ, Bool, true, false, not, List, [], ◌∷◌, length, Option, Some, None}
use Rattle.data_encoding_meaning.specs.declared.encoding.BitOrder.{BitOrder}
use Rattle.data_encoding_meaning.specs.declared.encoding.BitOrder.TheVariants.{MostSignificantFirst, LeastSignificantFirst}
use Rattle.data_encoding_meaning.specs.text.Base.{Base, Wrapping, ignores_some}
use Rattle.data_encoding_meaning.specs.laws.Eighteen.{Builds}
use Rattle.data_encoding_meaning.specs.specification.Layout.{ignored_bytes}
use Rattle.data_encoding_meaning.specs.specification.Predefined.{hexlower_fields, hexlower_permissive_fields, hexupper_fields, hexupper_permissive_fields, base32_fields, base32_nopad_fields, base32_nopad_nocase_fields, base32_nopad_visual_fields, base32hex_fields, base32hex_nopad_fields, base32_dnssec_fields, base32_dnscurve_fields, base64_fields, base64_nopad_fields, base64_mime_fields, base64_mime_permissive_fields, base64url_fields, base64url_nopad_fields}

-- The rules of a base: everything except its symbols and its translated bytes.
pub record Rules : Type 0 where
  pub width : ℕ
  pub order : BitOrder
  pub padding : Option ℕ
  pub wrapping : Option Wrapping
  pub ignored : List ℕ
  pub checks_trailing_bits : Bool
  pub concatenates : Bool

-- The base has the rules `rules`.
pub record HasRules (rules : Rules) (base : Base) : Type 0 where
  pub width : base.width ≡ rules.width
  pub order : base.order ≡ rules.order
  pub padding : base.padding ≡ rules.padding
  pub wrapping : base.wrapping ≡ rules.wrapping
  pub ignored : ignored_bytes base ≡ rules.ignored
  pub ignores : ignores_some base ≡ not (length rules.ignored == 0)
  pub checks : base.checks_trailing_bits ≡ rules.checks_trailing_bits
  pub concatenates : base.concatenates ≡ rules.concatenates

-- Symbols of `width` bits, no padding, no lines, and the most significant bit first.
abbrev pub plain_rules : ℕ → Rules
plain_rules width = record {
  width = width;
  order = MostSignificantFirst;
  padding = None;
  wrapping = None;
  ignored = [];
  checks_trailing_bits = true;
  concatenates = true;
}

-- Like `plain_rules`, with the least significant bit first.
abbrev pub reversed_rules : ℕ → Rules
reversed_rules width = record (plain_rules width) { order = LeastSignificantFirst }

-- Like `plain_rules`, with '=' as padding.
abbrev pub padded_rules : ℕ → Rules
padded_rules width = record (plain_rules width) { padding = Some 61 }

-- Padded base64 in lines of 76 characters that end in CR LF. Both bytes are ignored.
abbrev pub mime_rules : Rules
mime_rules = record (padded_rules 6) {
  wrapping = Some (record { column = 76; separator = 13 ∷ 10 ∷ [] });
  ignored = 10 ∷ 13 ∷ [];
}

-- Each of the predefined encodings has its rules.
pub record EighteenRules : Type 0 where
  pub hexlower : Builds (HasRules (plain_rules 4)) hexlower_fields
  pub hexlower_permissive : Builds (HasRules (plain_rules 4)) hexlower_permissive_fields
  pub hexupper : Builds (HasRules (plain_rules 4)) hexupper_fields
  pub hexupper_permissive : Builds (HasRules (plain_rules 4)) hexupper_permissive_fields
  pub base32 : Builds (HasRules (padded_rules 5)) base32_fields
  pub base32_nopad : Builds (HasRules (plain_rules 5)) base32_nopad_fields
  pub base32_nopad_nocase : Builds (HasRules (plain_rules 5)) base32_nopad_nocase_fields
  pub base32_nopad_visual : Builds (HasRules (plain_rules 5)) base32_nopad_visual_fields
  pub base32hex : Builds (HasRules (padded_rules 5)) base32hex_fields
  pub base32hex_nopad : Builds (HasRules (plain_rules 5)) base32hex_nopad_fields
  pub base32_dnssec : Builds (HasRules (plain_rules 5)) base32_dnssec_fields
  pub base32_dnscurve : Builds (HasRules (reversed_rules 5)) base32_dnscurve_fields
  pub base64 : Builds (HasRules (padded_rules 6)) base64_fields
  pub base64_nopad : Builds (HasRules (plain_rules 6)) base64_nopad_fields
  pub base64_mime : Builds (HasRules mime_rules) base64_mime_fields
  pub base64_mime_permissive :
      Builds (HasRules (record mime_rules { checks_trailing_bits = false }))
      base64_mime_permissive_fields
  pub base64url : Builds (HasRules (padded_rules 6)) base64url_fields
  pub base64url_nopad : Builds (HasRules (plain_rules 6)) base64url_nopad_fields
