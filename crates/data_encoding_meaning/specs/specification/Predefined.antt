-- The specifications of the predefined encodings (RFC 4648, RFC 5155, DNSCurve; the lines of RFC
-- 2045).
use Rattle.std.specs.Prelude.{ℕ, Bool, true, false, List, [], ◌∷◌, codes, Some, None}
use Rattle.data_encoding_meaning.specs.declared.encoding.BitOrder.{BitOrder}
use Rattle.data_encoding_meaning.specs.declared.encoding.BitOrder.TheVariants.{MostSignificantFirst, LeastSignificantFirst}
use Rattle.data_encoding_meaning.specs.specification.Fields.{Fields}

-- A specification of symbols, without padding, lines, or ignored or translated bytes.
abbrev pub symbols_alone : List ℕ → BitOrder → Bool → Fields
symbols_alone symbols order check = record {
  symbols = symbols;
  order = order;
  checks_trailing_bits = check;
  concatenates = true;
  padding = None;
  ignored = [];
  column = 0;
  separator = [];
  from = [];
  to = [];
}

-- A specification of symbols only. The most significant bit comes first, and trailing bits are
-- checked.
abbrev pub unpadded_fields : List ℕ → Fields
unpadded_fields symbols = symbols_alone symbols MostSignificantFirst true

-- The specification with '=' as padding.
abbrev pub padded_fields : Fields → Fields
padded_fields fields = record fields { padding = Some 61 }

-- The specification with the bytes `from` translated to the bytes `to`.
abbrev pub translated_fields : Fields → List ℕ → List ℕ → Fields
translated_fields fields from to = record fields { from = from; to = to }

-- The specification with lines of 76 characters that end in CR LF.
abbrev pub mime_fields : Fields → Fields
mime_fields fields = record fields { column = 76; separator = 13 ∷ 10 ∷ [] }

-- Hexadecimal in lower case.
abbrev pub hexlower_fields : Fields
hexlower_fields = unpadded_fields (codes "0123456789abcdef")

-- Hexadecimal in lower case. Upper case decodes too.
abbrev pub hexlower_permissive_fields : Fields
hexlower_permissive_fields = translated_fields hexlower_fields (codes "ABCDEF") (codes "abcdef")

-- Hexadecimal in upper case.
abbrev pub hexupper_fields : Fields
hexupper_fields = unpadded_fields (codes "0123456789ABCDEF")

-- Hexadecimal in upper case. Lower case decodes too.
abbrev pub hexupper_permissive_fields : Fields
hexupper_permissive_fields = translated_fields hexupper_fields (codes "abcdef") (codes "ABCDEF")

-- Base32 without padding.
abbrev pub base32_nopad_fields : Fields
base32_nopad_fields = unpadded_fields (codes "ABCDEFGHIJKLMNOPQRSTUVWXYZ234567")

-- Base32 of RFC 4648.
abbrev pub base32_fields : Fields
base32_fields = padded_fields base32_nopad_fields

-- Base32 without padding. Lower case decodes too.
abbrev pub base32_nopad_nocase_fields : Fields
base32_nopad_nocase_fields =
    translated_fields base32_nopad_fields
    (codes "abcdefghijklmnopqrstuvwxyz") (codes "ABCDEFGHIJKLMNOPQRSTUVWXYZ")

-- Base32 without padding. The bytes '0', '1', 'l' and '8' decode as 'O', 'I', 'I' and 'B'.
abbrev pub base32_nopad_visual_fields : Fields
base32_nopad_visual_fields = translated_fields base32_nopad_fields (codes "01l8") (codes "OIIB")

-- Base32 with extended hexadecimal symbols, without padding.
abbrev pub base32hex_nopad_fields : Fields
base32hex_nopad_fields = unpadded_fields (codes "0123456789ABCDEFGHIJKLMNOPQRSTUV")

-- Base32 with extended hexadecimal symbols of RFC 4648.
abbrev pub base32hex_fields : Fields
base32hex_fields = padded_fields base32hex_nopad_fields

-- Base32 of DNSSEC (RFC 5155). Upper case decodes too.
abbrev pub base32_dnssec_fields : Fields
base32_dnssec_fields =
    translated_fields (unpadded_fields (codes "0123456789abcdefghijklmnopqrstuv"))
    (codes "ABCDEFGHIJKLMNOPQRSTUV") (codes "abcdefghijklmnopqrstuv")

-- Base32 of DNSCurve, with the least significant bit first. Upper case decodes too.
abbrev pub base32_dnscurve_fields : Fields
base32_dnscurve_fields =
    record (translated_fields (unpadded_fields (codes "0123456789bcdfghjklmnpqrstuvwxyz"))
    (codes "BCDFGHJKLMNPQRSTUVWXYZ") (codes "bcdfghjklmnpqrstuvwxyz"))
    { order = LeastSignificantFirst }

-- Base64 without padding.
abbrev pub base64_nopad_fields : Fields
base64_nopad_fields =
    unpadded_fields (codes "ABCDEFGHIJKLMNOPQRSTUVWXYZabcdefghijklmnopqrstuvwxyz0123456789+/")

-- Base64 of RFC 4648.
abbrev pub base64_fields : Fields
base64_fields = padded_fields base64_nopad_fields

-- Base64 in lines, as in MIME (RFC 2045).
abbrev pub base64_mime_fields : Fields
base64_mime_fields = mime_fields base64_fields

-- Base64 in lines. Trailing bits that are not zeros decode too.
abbrev pub base64_mime_permissive_fields : Fields
base64_mime_permissive_fields = record base64_mime_fields { checks_trailing_bits = false }

-- Base64 with symbols for URLs and file names, without padding.
abbrev pub base64url_nopad_fields : Fields
base64url_nopad_fields =
    unpadded_fields (codes "ABCDEFGHIJKLMNOPQRSTUVWXYZabcdefghijklmnopqrstuvwxyz0123456789-_")

-- Base64 with symbols for URLs and file names of RFC 4648.
abbrev pub base64url_fields : Fields
base64url_fields = padded_fields base64url_nopad_fields
