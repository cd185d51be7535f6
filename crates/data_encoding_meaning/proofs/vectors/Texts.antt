-- Worked rows of texts: bytes, bits, and what is encoded.
use Rattle.std.proofs.Common.{◌≡◌, ℕ, true, false, List, [], ◌∷◌, ◌++◌, map, codes, replicate, Some, None, refl, lit<, arith, lit≤}
use Rattle.data_encoding_meaning.specs.declared.encoding.BitOrder.TheVariants.{LeastSignificantFirst, MostSignificantFirst}
use Rattle.data_encoding_meaning.specs.declared.encoding.Character.TheVariants.{Symbol as SymbolCharacter, Padding as PaddingCharacter, Ignored, Invalid}
use Rattle.data_encoding_meaning.specs.text.Base.{is_symbol, is_ignored, is_invalid, is_padding, value_of, group_bytes, group_symbols, IsWidth, meaning, symbol, is_padded, ignores_some, Wrapping}
use Rattle.data_encoding_meaning.specs.specification.Fields.{Fields}
use Rattle.data_encoding_meaning.specs.specification.Predefined.{padded_fields, hexlower_fields, hexlower_permissive_fields, hexupper_fields, hexupper_permissive_fields, base32_fields, base32_nopad_fields, base32_nopad_nocase_fields, base32_nopad_visual_fields, base32hex_fields, base32hex_nopad_fields, base32_dnssec_fields, base32_dnscurve_fields, base64_fields, base64_nopad_fields, base64_mime_fields, base64_mime_permissive_fields, base64url_fields, base64url_nopad_fields}
use Rattle.data_encoding_meaning.specs.text.Text.{text_of, filled_with, plain_text, with_padding, padded_text, in_lines}
use Rattle.data_encoding_meaning.specs.text.Bits.{low_bits, number_of_low_bits, bits_of, number_of, bits_of_bytes, missing, runs}
use Rattle.data_encoding_meaning.specs.text.EncodedPieces.{HasEncoded}
use Rattle.data_encoding_meaning.proofs.vectors.Examples.{Hold, by, encoded, Has, octal_fields, reversed, lines_of_8_fields}

abbrev widths : List ℕ
widths = 1 ∷ 2 ∷ 3 ∷ 4 ∷ 5 ∷ 6 ∷ []

groups_by_width : (map group_bytes widths ≡ 1 ∷ 1 ∷ 3 ∷ 1 ∷ 5 ∷ 3 ∷ [])
    × (map group_symbols widths ≡ 8 ∷ 4 ∷ 8 ∷ 2 ∷ 8 ∷ 4 ∷ [])
groups_by_width = (refl, refl)

-- symbol 5, padding, ignored and invalid
characters_by_test :
    (map is_symbol (SymbolCharacter 5 ∷ PaddingCharacter ∷ Ignored ∷ Invalid ∷ [])
    ≡ true ∷ false ∷ false ∷ false ∷ [])
    × (map value_of (SymbolCharacter 5 ∷ PaddingCharacter ∷ Ignored ∷ Invalid ∷ [])
    ≡ Some 5 ∷ None ∷ None ∷ None ∷ [])
    × (map is_padding (SymbolCharacter 5 ∷ PaddingCharacter ∷ Ignored ∷ Invalid ∷ [])
    ≡ false ∷ true ∷ false ∷ false ∷ [])
    × (map is_ignored (SymbolCharacter 5 ∷ PaddingCharacter ∷ Ignored ∷ Invalid ∷ [])
    ≡ false ∷ false ∷ true ∷ false ∷ [])
    × (map is_invalid (SymbolCharacter 5 ∷ PaddingCharacter ∷ Ignored ∷ Invalid ∷ [])
    ≡ false ∷ false ∷ false ∷ true ∷ [])
characters_by_test = (refl, refl, refl, refl, refl)

-- the texts of data in order, padded with a character before each symbol, and with one after them
texts_in_order : Hold (λ (row : ℕ × List ℕ).
    encoded (record octal_fields { padding = Some row.0 }) row.1) (
    ((33, 0 ∷ []), Some (codes "000!!!!!"))
    ∷ ((33, 0 ∷ 0 ∷ []), Some (codes "000000!!"))
    ∷ ((61, 0 ∷ []), Some (codes "000====="))
    ∷ ((61, 0 ∷ 0 ∷ []), Some (codes "000000=="))
    ∷ [])
texts_in_order = refl

-- the text of the same four bytes in each of the eighteen
predefined_texts : Hold (λ fields. encoded fields (251 ∷ 239 ∷ 255 ∷ 1 ∷ [])) (
    (hexlower_fields, Some (codes "fbefff01"))
    ∷ (hexlower_permissive_fields, Some (codes "fbefff01"))
    ∷ (hexupper_fields, Some (codes "FBEFFF01"))
    ∷ (hexupper_permissive_fields, Some (codes "FBEFFF01"))
    ∷ (base32_fields, Some (codes "7PX76AI="))
    ∷ (base32_nopad_fields, Some (codes "7PX76AI"))
    ∷ (base32_nopad_nocase_fields, Some (codes "7PX76AI"))
    ∷ (base32_nopad_visual_fields, Some (codes "7PX76AI"))
    ∷ (base32hex_fields, Some (codes "VFNVU08="))
    ∷ (base32hex_nopad_fields, Some (codes "VFNVU08"))
    ∷ (base32_dnssec_fields, Some (codes "vfnvu08"))
    ∷ (base32_dnscurve_fields, Some (codes "vzvzz00"))
    ∷ (base64_fields, Some (codes "++//AQ=="))
    ∷ (base64_nopad_fields, Some (codes "++//AQ"))
    ∷ (base64_mime_fields, Some (codes "++//AQ==" ++ 13 ∷ 10 ∷ []))
    ∷ (base64_mime_permissive_fields, Some (codes "++//AQ==" ++ 13 ∷ 10 ∷ []))
    ∷ (base64url_fields, Some (codes "--__AQ=="))
    ∷ (base64url_nopad_fields, Some (codes "--__AQ"))
    ∷ []
    )
predefined_texts = refl

other_texts : Hold (λ (row : Fields × List ℕ). encoded row.0 row.1) (
    ((octal_fields, codes "B"), Some (codes "204"))
    ∷ ((octal_fields, codes "Bit"), Some (codes "20464564"))
    ∷ ((padded_fields octal_fields, codes "B"), Some (codes "204====="))
    ∷ ((base64_fields, codes "Hello world"), Some (codes "SGVsbG8gd29ybGQ="))
    ∷ ((reversed base64_nopad_fields, codes "Hello"), Some (codes "IVGbs9G"))
    ∷ ((base32_dnscurve_fields, 100 ∷ 136 ∷ []), Some (codes "4321"))
    ∷ ((lines_of_8_fields, codes "Hey you"), Some (codes "SGV5IHlv dQ== "))
    ∷ ((base64_mime_fields, replicate 57 0), Some (replicate 76 65 ++ 13 ∷ 10 ∷ []))
    ∷ []
    )
other_texts = refl

-- what bytes of a text mean: a digit, a letter of either case, one that is nothing
meanings_of_bytes :
    (by (λ base. map (meaning base) (codes "9aAg")) hexlower_fields
    ≡ Some (SymbolCharacter 9 ∷ SymbolCharacter 10 ∷ Invalid ∷ Invalid ∷ []))
    × (by (λ base. map (meaning base) (codes "aA")) hexlower_permissive_fields
    ≡ Some (SymbolCharacter 10 ∷ SymbolCharacter 10 ∷ []))
    × (by (λ base. map (meaning base) (61 ∷ 10 ∷ 200 ∷ [])) base64_mime_fields
    ≡ Some (PaddingCharacter ∷ Ignored ∷ Invalid ∷ []))
meanings_of_bytes = (refl, refl, refl)

symbols_of_values :
    by (λ base. map (symbol base) (0 ∷ 10 ∷ 15 ∷ [])) hexlower_fields ≡ Some (codes "0af")
symbols_of_values = refl

-- whether texts are padded, and whether bytes are ignored
padded_and_ignoring :
    Hold (by is_padded) ((hexlower_fields, Some false) ∷ (base64_fields, Some true) ∷ [])
    × Hold (by ignores_some) ((base64_fields, Some false) ∷ (base64_mime_fields, Some true) ∷ [])
padded_and_ignoring = (refl, refl)

abbrev mime_lines : Wrapping
mime_lines = record { column = 76; separator = 13 ∷ 10 ∷ [] }

-- a base and its lines
base_built :
    (by (λ base. base.width) base64_mime_fields ≡ Some 6)
    × (by (λ base. base.wrapping) base64_mime_fields ≡ Some (Some mime_lines))
base_built = (refl, refl)

six_is_width : IsWidth 6 × (IsWidth 7 → ⊥)
six_is_width = (record { some = lit< tt; few = lit≤ tt }, λ h. omega (arith, h.few))

-- the bits of 6 in three bits, and of a byte, in both orders
bits_computed :
    (low_bits 3 6 ≡ 0 ∷ 1 ∷ 1 ∷ [])
    × (number_of_low_bits (0 ∷ 1 ∷ 1 ∷ []) ≡ 6)
    × (bits_of MostSignificantFirst 3 6 ≡ 1 ∷ 1 ∷ 0 ∷ [])
    × (bits_of LeastSignificantFirst 3 6 ≡ 0 ∷ 1 ∷ 1 ∷ [])
    × (number_of MostSignificantFirst (1 ∷ 1 ∷ 0 ∷ []) ≡ 6)
    × (number_of LeastSignificantFirst (1 ∷ 1 ∷ 0 ∷ []) ≡ 3)
    × (bits_of_bytes MostSignificantFirst (codes "B")
    ≡ 0 ∷ 1 ∷ 0 ∷ 0 ∷ 0 ∷ 0 ∷ 1 ∷ 0 ∷ [])
bits_computed = (refl, refl, refl, refl, refl, refl, refl)

-- one bit more makes nine of eight; and eight bits in runs of three
cuts :
    (missing 3 8 ≡ 1) × (missing 3 9 ≡ 0)
    × (runs 3 (codes "ABCDEFGH") ≡ codes "ABC" ∷ codes "DEF" ∷ codes "GH" ∷ [])
cuts = (refl, refl, refl)

-- `Hello` in lines of eight: the symbols, with padding, and in lines
text_by_steps :
    (by (λ base. plain_text base (codes "Hello")) lines_of_8_fields ≡ Some (codes "SGVsbG8"))
    × (by (λ base. padded_text base (codes "Hello")) lines_of_8_fields ≡ Some (codes "SGVsbG8="))
    × (by (λ base. text_of base (codes "Hello")) lines_of_8_fields ≡ Some (codes "SGVsbG8= "))
    × (filled_with 61 4 (codes "bG8") ≡ codes "bG8=")
    × (with_padding None 4 (codes "bG8") ≡ codes "bG8")
    × (in_lines None (codes "bG8") ≡ codes "bG8")
    × (in_lines (Some (record { column = 2; separator = 10 ∷ [] })) (codes "bG8")
    ≡ codes "bG" ++ 10 ∷ codes "8" ++ 10 ∷ [])
text_by_steps = (refl, refl, refl, refl, refl, refl, refl)

-- of `hello` the text of `hel` was written, and `lo` is held; `hello` is not all held
held_in_part :
    Has base64_fields (λ base.
    HasEncoded base (codes "> ") (codes "hello") (codes "> aGVs") (codes "lo")
    × (HasEncoded base [] (codes "hello") [] (codes "hello") → ⊥))
held_in_part = (
  record {
    encoded = codes "hel";
    are_bytes = refl;
    is_aligned = refl;
    is_short = lit< tt;
    is_written = refl;
  },
  λ h. omega (arith, h.is_short),
)
