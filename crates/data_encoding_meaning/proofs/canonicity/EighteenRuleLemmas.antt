-- The rules of the eighteen, which are computed.
use Rattle.std.proofs.Common.{◌≡◌, ◌==◌, Bool, false, not, length, Option, Some, None, Result, Ok, Err, refl, sym, ap, ◌∙◌}
use Rattle.data_encoding_meaning.specs.declared.refusal.Refusal.{Refusal}
use Rattle.data_encoding_meaning.specs.text.Base.{Base, ignores_some}
use Rattle.data_encoding_meaning.specs.laws.Eighteen.{Builds}
use Rattle.data_encoding_meaning.specs.laws.Rules.{EighteenRules, HasRules, Rules, mime_rules, padded_rules, plain_rules, reversed_rules}
use Rattle.data_encoding_meaning.specs.specification.Fields.{Fields, base_of}
use Rattle.data_encoding_meaning.specs.specification.Layout.{ignored_bytes}
use Rattle.data_encoding_meaning.specs.specification.Predefined.{hexlower_fields, hexlower_permissive_fields, hexupper_fields, hexupper_permissive_fields, base32_fields, base32_nopad_fields, base32_nopad_nocase_fields, base32_nopad_visual_fields, base32hex_fields, base32hex_nopad_fields, base32_dnssec_fields, base32_dnscurve_fields, base64_fields, base64_nopad_fields, base64_mime_fields, base64_mime_permissive_fields, base64url_fields, base64url_nopad_fields}

abbrev rules_of : Base → Rules
rules_of base = record {
  width = base.width;
  order = base.order;
  padding = base.padding;
  wrapping = base.wrapping;
  ignored = ignored_bytes base;
  checks_trailing_bits = base.checks_trailing_bits;
  concatenates = base.concatenates;
}

-- the rules of a base, and whether it ignores a byte, if there is a base
abbrev rules_in : Result Base Refusal → Option (Rules × Bool)
rules_in (Ok base) = Some (rules_of base, ignores_some base)
rules_in (Err refusal) = None

abbrev expected : Rules → Option (Rules × Bool)
expected rules = Some (rules, not (length rules.ignored == 0))

same : (p q : Rules × Bool) → Some p ≡ Some q → p ≡ q
same p q h = cc

has : (rules : Rules) (fields : Fields) → rules_in (base_of fields) ≡ expected rules
    → Builds (HasRules rules) fields
has rules fields shown base is =
    let equal = same (rules_of base, ignores_some base) (rules, not (length rules.ignored == 0))
    (sym (ap rules_in is) ∙ shown) in
    record {
      width = ap (λ p. p.0.width) equal;
      order = ap (λ p. p.0.order) equal;
      padding = ap (λ p. p.0.padding) equal;
      wrapping = ap (λ p. p.0.wrapping) equal;
      ignored = ap (λ p. p.0.ignored) equal;
      ignores = ap (λ p. p.1) equal;
      checks = ap (λ p. p.0.checks_trailing_bits) equal;
      concatenates = ap (λ p. p.0.concatenates) equal;
    }

pub eighteen-rules : EighteenRules
eighteen-rules = record {
  hexlower = has (plain_rules 4) hexlower_fields refl;
  hexlower_permissive = has (plain_rules 4) hexlower_permissive_fields refl;
  hexupper = has (plain_rules 4) hexupper_fields refl;
  hexupper_permissive = has (plain_rules 4) hexupper_permissive_fields refl;
  base32 = has (padded_rules 5) base32_fields refl;
  base32_nopad = has (plain_rules 5) base32_nopad_fields refl;
  base32_nopad_nocase = has (plain_rules 5) base32_nopad_nocase_fields refl;
  base32_nopad_visual = has (plain_rules 5) base32_nopad_visual_fields refl;
  base32hex = has (padded_rules 5) base32hex_fields refl;
  base32hex_nopad = has (plain_rules 5) base32hex_nopad_fields refl;
  base32_dnssec = has (plain_rules 5) base32_dnssec_fields refl;
  base32_dnscurve = has (reversed_rules 5) base32_dnscurve_fields refl;
  base64 = has (padded_rules 6) base64_fields refl;
  base64_nopad = has (plain_rules 6) base64_nopad_fields refl;
  base64_mime = has mime_rules base64_mime_fields refl;
  base64_mime_permissive =
      has (record mime_rules { checks_trailing_bits = false }) base64_mime_permissive_fields refl;
  base64url = has (padded_rules 6) base64url_fields refl;
  base64url_nopad = has (plain_rules 6) base64url_nopad_fields refl;
}
