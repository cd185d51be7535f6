use Rattle.std.proofs.Common.{ap}
use Rattle.data_encoding_meaning.specs.specification.Predefined.{hexlower_fields, hexlower_permissive_fields, hexupper_fields, hexupper_permissive_fields, base32_fields, base32_nopad_fields, base32_nopad_nocase_fields, base32_nopad_visual_fields, base32hex_fields, base32hex_nopad_fields, base32_dnssec_fields, base32_dnscurve_fields, base64_fields, base64_nopad_fields, base64_mime_fields, base64_mime_permissive_fields, base64url_fields, base64url_nopad_fields}
use Rattle.data_encoding_meaning.specs.specification.Named.{fields_numbered}
use Rattle.data_encoding.proofs.specification.predefined.named.predefined_numbered.Goals as goal

pub returns-in-0-clause-known : goal.returns-in-0-clause-known
returns-in-0-clause-known c = record {
  fields = hexlower_fields;
  is_known = ap fields_numbered c.in-0.is;
  is_built = c.hexlower_ref.ensures;
}

pub returns-in-1-clause-known : goal.returns-in-1-clause-known
returns-in-1-clause-known c = record {
  fields = hexlower_permissive_fields;
  is_known = ap fields_numbered c.in-1.is;
  is_built = c.hexlower_permissive_ref.ensures;
}

pub returns-in-2-clause-known : goal.returns-in-2-clause-known
returns-in-2-clause-known c = record {
  fields = hexupper_fields;
  is_known = ap fields_numbered c.in-2.is;
  is_built = c.hexupper_ref.ensures;
}

pub returns-in-3-clause-known : goal.returns-in-3-clause-known
returns-in-3-clause-known c = record {
  fields = hexupper_permissive_fields;
  is_known = ap fields_numbered c.in-3.is;
  is_built = c.hexupper_permissive_ref.ensures;
}

pub returns-in-4-clause-known : goal.returns-in-4-clause-known
returns-in-4-clause-known c = record {
  fields = base32_fields;
  is_known = ap fields_numbered c.in-4.is;
  is_built = c.base32_ref.ensures;
}

pub returns-in-5-clause-known : goal.returns-in-5-clause-known
returns-in-5-clause-known c = record {
  fields = base32_nopad_fields;
  is_known = ap fields_numbered c.in-5.is;
  is_built = c.base32_nopad_ref.ensures;
}

pub returns-in-6-clause-known : goal.returns-in-6-clause-known
returns-in-6-clause-known c = record {
  fields = base32_nopad_nocase_fields;
  is_known = ap fields_numbered c.in-6.is;
  is_built = c.base32_nopad_nocase_ref.ensures;
}

pub returns-in-7-clause-known : goal.returns-in-7-clause-known
returns-in-7-clause-known c = record {
  fields = base32_nopad_visual_fields;
  is_known = ap fields_numbered c.in-7.is;
  is_built = c.base32_nopad_visual_ref.ensures;
}

pub returns-in-8-clause-known : goal.returns-in-8-clause-known
returns-in-8-clause-known c = record {
  fields = base32hex_fields;
  is_known = ap fields_numbered c.in-8.is;
  is_built = c.base32hex_ref.ensures;
}

pub returns-in-9-clause-known : goal.returns-in-9-clause-known
returns-in-9-clause-known c = record {
  fields = base32hex_nopad_fields;
  is_known = ap fields_numbered c.in-9.is;
  is_built = c.base32hex_nopad_ref.ensures;
}

pub returns-in-10-clause-known : goal.returns-in-10-clause-known
returns-in-10-clause-known c = record {
  fields = base32_dnssec_fields;
  is_known = ap fields_numbered c.in-10.is;
  is_built = c.base32_dnssec_ref.ensures;
}

pub returns-in-11-clause-known : goal.returns-in-11-clause-known
returns-in-11-clause-known c = record {
  fields = base32_dnscurve_fields;
  is_known = ap fields_numbered c.in-11.is;
  is_built = c.base32_dnscurve_ref.ensures;
}

pub returns-in-12-clause-known : goal.returns-in-12-clause-known
returns-in-12-clause-known c = record {
  fields = base64_fields;
  is_known = ap fields_numbered c.in-12.is;
  is_built = c.base64_ref.ensures;
}

pub returns-in-13-clause-known : goal.returns-in-13-clause-known
returns-in-13-clause-known c = record {
  fields = base64_nopad_fields;
  is_known = ap fields_numbered c.in-13.is;
  is_built = c.base64_nopad_ref.ensures;
}

pub returns-in-14-clause-known : goal.returns-in-14-clause-known
returns-in-14-clause-known c = record {
  fields = base64_mime_fields;
  is_known = ap fields_numbered c.in-14.is;
  is_built = c.base64_mime_ref.ensures;
}

pub returns-in-15-clause-known : goal.returns-in-15-clause-known
returns-in-15-clause-known c = record {
  fields = base64_mime_permissive_fields;
  is_known = ap fields_numbered c.in-15.is;
  is_built = c.base64_mime_permissive_ref.ensures;
}

pub returns-in-16-clause-known : goal.returns-in-16-clause-known
returns-in-16-clause-known c = record {
  fields = base64url_fields;
  is_known = ap fields_numbered c.in-16.is;
  is_built = c.base64url_ref.ensures;
}

pub returns-in-17-clause-known : goal.returns-in-17-clause-known
returns-in-17-clause-known c = record {
  fields = base64url_nopad_fields;
  is_known = ap fields_numbered c.in-17.is;
  is_built = c.base64url_nopad_ref.ensures;
}
