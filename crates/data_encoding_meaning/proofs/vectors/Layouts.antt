-- Worked rows of specifications and layouts, and of what is printed.
use Rattle.std.proofs.Common.{◌≡◌, ℕ, ◌*◌, true, false, List, [], ◌∷◌, ◌++◌, map, length, take, drop, codes, replicate, Some, None, Ok, Err, refl, ap, lit<}
use Rattle.std.specs.Prelude.{sum_by}
use Rattle.std.specs.List.{enumerate_from}
use Rattle.std.proofs.lemmas.Fmt.{decimal_digit}
use Rattle.data_encoding_meaning.specs.declared.refusal.Refusal.TheVariants.{BadSize, NotAscii, Duplicate, ExtraPadding, WrapLength, WrapWidth, FromTo, Undefined}
use Rattle.data_encoding_meaning.specs.declared.encoding.BitOrder.TheVariants.{LeastSignificantFirst, MostSignificantFirst}
use Rattle.data_encoding_meaning.specs.declared.encoding.Character.TheVariants.{Symbol as SymbolCharacter, Padding as PaddingCharacter, Ignored, Invalid}
use Rattle.data_encoding_meaning.specs.declared.error.DecodeFault.TheVariants.{Error, OutOfMemory}
use Rattle.data_encoding_meaning.specs.declared.error.DecodeKind.{DecodeKind}
use Rattle.data_encoding_meaning.specs.declared.error.DecodeKind.TheVariants.{Length, Symbol, Trailing, Padding}
use Rattle.data_encoding_meaning.specs.text.Base.{Base}
use Rattle.data_encoding_meaning.specs.specification.Entries.{meaning_of_entry, is_entry_of}
use Rattle.data_encoding_meaning.specs.specification.Fields.{base_of, Require, Define, Translate, is_same, width_of, symbol_judgements, padding_judgements, ignored_judgements, wraps, wrapping_judgements, pair_judgements, translation_judgements, judgements, base_with, base_by, IsSpecified, Judgement, given, pairs_of, pairs_after, is_contradicted, pair_refusal, translation_refusal, judgement_refusal, first_refusal, meanings_by, meanings_unless, meanings_of}
use Rattle.data_encoding_meaning.specs.specification.Layout.{layout, fields_of, code_of, order_flag, wrapping_bytes, own_character, own_byte, is_translated, translated_bytes, ignored_bytes, column_of, separator_of}
use Rattle.data_encoding_meaning.specs.specification.Predefined.{unpadded_fields, padded_fields, translated_fields, hexlower_fields, hexlower_permissive_fields, hexupper_fields, hexupper_permissive_fields, base32_fields, base32_nopad_fields, base32_nopad_nocase_fields, base32_nopad_visual_fields, base32hex_fields, base32hex_nopad_fields, base32_dnssec_fields, base32_dnscurve_fields, base64_fields, base64_nopad_fields, base64_mime_fields, base64_mime_permissive_fields, base64url_fields, base64url_nopad_fields, symbols_alone, mime_fields}
use Rattle.data_encoding_meaning.specs.decoding.Printed.{printed_fault, printed_refusal, printed_kind, printed_error}
use Rattle.data_encoding_meaning.specs.declared.encoding.Character.{Character}
use Rattle.data_encoding_meaning.proofs.vectors.Examples.{Hold, by, Has, octal_fields, reversed, unchecked, ignoring, wrapped, nopad_ignoring_lf_fields, lines_of_8_fields, single_fields}

-- the length of a layout, its bytes times their positions in sum, and what follows the tables
abbrev layout_digest : Base → List ℕ
layout_digest base =
    length (layout base)
    ∷ sum_by (λ (p : ℕ × ℕ). p.0 * p.1) (enumerate_from 0 (layout base))
    ∷ drop 512 (layout base)

predefined_layouts : Hold (by layout_digest) (
    (hexlower_fields, Some (514 ∷ 14332209 ∷ 128 ∷ 28 ∷ []))
    ∷ (hexlower_permissive_fields, Some (514 ∷ 14108041 ∷ 128 ∷ 28 ∷ []))
    ∷ (hexupper_fields, Some (514 ∷ 13947345 ∷ 128 ∷ 28 ∷ []))
    ∷ (hexupper_permissive_fields, Some (514 ∷ 13701001 ∷ 128 ∷ 28 ∷ []))
    ∷ (base32_fields, Some (514 ∷ 13801916 ∷ 61 ∷ 29 ∷ []))
    ∷ (base32_nopad_fields, Some (514 ∷ 13835586 ∷ 128 ∷ 29 ∷ []))
    ∷ (base32_nopad_nocase_fields, Some (514 ∷ 12739452 ∷ 128 ∷ 29 ∷ []))
    ∷ (base32_nopad_visual_fields, Some (514 ∷ 13681026 ∷ 128 ∷ 29 ∷ []))
    ∷ (base32hex_fields, Some (514 ∷ 13706948 ∷ 61 ∷ 29 ∷ []))
    ∷ (base32hex_nopad_fields, Some (514 ∷ 13740618 ∷ 128 ∷ 29 ∷ []))
    ∷ (base32_dnssec_fields, Some (514 ∷ 13628066 ∷ 128 ∷ 29 ∷ []))
    ∷ (base32_dnscurve_fields, Some (514 ∷ 13682792 ∷ 128 ∷ 21 ∷ []))
    ∷ (base64_fields, Some (514 ∷ 13300310 ∷ 61 ∷ 30 ∷ []))
    ∷ (base64_nopad_fields, Some (514 ∷ 13333980 ∷ 128 ∷ 30 ∷ []))
    ∷ (base64_mime_fields, Some (517 ∷ 13351764 ∷ 61 ∷ 30 ∷ 76 ∷ 13 ∷ 10 ∷ []))
    ∷ (base64_mime_permissive_fields, Some (517 ∷ 13343556 ∷ 61 ∷ 14 ∷ 76 ∷ 13 ∷ 10 ∷ []))
    ∷ (base64url_fields, Some (514 ∷ 13328850 ∷ 61 ∷ 30 ∷ []))
    ∷ (base64url_nopad_fields, Some (514 ∷ 13362520 ∷ 128 ∷ 30 ∷ []))
    ∷ []
    )
predefined_layouts = refl

-- the first differs from its like among the eighteen in the bit order alone
other_layouts : Hold (by layout_digest) (
    (reversed hexlower_fields, Some (514 ∷ 14328105 ∷ 128 ∷ 20 ∷ []))
    ∷ (unchecked hexlower_fields, Some (514 ∷ 14332209 ∷ 128 ∷ 28 ∷ []))
    ∷ (padded_fields octal_fields, Some (514 ∷ 13988321 ∷ 61 ∷ 27 ∷ []))
    ∷ (unchecked octal_fields, Some (514 ∷ 14013783 ∷ 128 ∷ 11 ∷ []))
    ∷ (nopad_ignoring_lf_fields, Some (515 ∷ 13334246 ∷ 128 ∷ 30 ∷ 0 ∷ []))
    ∷ (lines_of_8_fields, Some (516 ∷ 13321190 ∷ 61 ∷ 30 ∷ 8 ∷ 32 ∷ []))
    ∷ (wrapped base64_fields 6 [], Some (514 ∷ 13300310 ∷ 61 ∷ 30 ∷ []))
    ∷ (wrapped base64_fields 0 (codes " "), Some (514 ∷ 13300310 ∷ 61 ∷ 30 ∷ []))
    ∷ (
      translated_fields (ignoring base64_fields (codes "  ")) (codes "AA-") (codes "AA "),
      Some (515 ∷ 13300899 ∷ 61 ∷ 30 ∷ 0 ∷ []),
    )
    ∷ (
      translated_fields base64_fields (codes "%*") (codes "A%"),
      Some (514 ∷ 13224662 ∷ 61 ∷ 30 ∷ []),
    )
    ∷ []
    )
other_layouts = refl

refusals : Hold base_of (
    (unpadded_fields [], Err BadSize)
    ∷ (unpadded_fields (codes "a"), Err BadSize)
    ∷ (unpadded_fields (codes "abc"), Err BadSize)
    ∷ (unpadded_fields (195 ∷ 169 ∷ []), Err NotAscii)
    ∷ (record base64_fields { padding = Some 233 }, Err NotAscii)
    ∷ (ignoring base64_fields (195 ∷ 169 ∷ []), Err NotAscii)
    ∷ (translated_fields base64_fields (195 ∷ 169 ∷ []) (codes "AA"), Err NotAscii)
    ∷ (translated_fields base64_fields (codes "**") (195 ∷ 169 ∷ []), Err NotAscii)
    ∷ (unpadded_fields (codes "00"), Err (Duplicate 48))
    ∷ (record base64_fields { padding = Some 65 }, Err (Duplicate 65))
    ∷ (ignoring base64_fields (codes "="), Err (Duplicate 61))
    ∷ (translated_fields base64_fields (codes "B") (codes "A"), Err (Duplicate 66))
    ∷ (padded_fields (unpadded_fields (codes "01")), Err ExtraPadding)
    ∷ (wrapped base64_fields 256 (10 ∷ []), Err WrapLength)
    ∷ (wrapped base64_fields 4 (replicate 256 10), Err WrapLength)
    ∷ (wrapped base64_fields 6 (10 ∷ []), Err (WrapWidth 4))
    ∷ (wrapped base32_fields 12 (10 ∷ []), Err (WrapWidth 8))
    ∷ (translated_fields base64_fields (codes "ab") (codes "A"), Err FromTo)
    ∷ (translated_fields base64_fields (codes "*") (codes "!"), Err (Undefined 33))
    ∷ (translated_fields base64_fields (codes "*%") (codes "%A"), Err (Undefined 37))
    ∷ []
    )
refusals = refl

-- what is ignored and what is translated, in order
specifications : Hold (by fields_of) (
    (hexlower_permissive_fields, Some hexlower_permissive_fields)
    ∷ (base32_dnscurve_fields, Some base32_dnscurve_fields)
    ∷ (
      base64_mime_permissive_fields,
      Some (ignoring base64_mime_permissive_fields (10 ∷ 13 ∷ [])),
    )
    ∷ (
      translated_fields (wrapped (ignoring base64_fields (codes " ")) 8 (10 ∷ []))
          (codes "-_*") (codes "+/="),
      Some (translated_fields (wrapped (ignoring base64_fields (10 ∷ 32 ∷ [])) 8 (10 ∷ []))
          (codes "*-_") (codes "=+/")),
    )
    ∷ []
    )
specifications = refl

abbrev printed_at_3 : DecodeKind → List ℕ
printed_at_3 kind = printed_fault (Error (record { position = 3; kind = kind }))

faults_printed :
    (printed_at_3 Length ≡ codes "invalid length at 3")
    × (printed_at_3 Symbol ≡ codes "invalid symbol at 3")
    × (printed_at_3 Trailing ≡ codes "non-zero trailing bits at 3")
    × (printed_at_3 Padding ≡ codes "invalid padding length at 3")
    × (printed_fault OutOfMemory ≡ codes "out of memory")
    × (printed_error (record { position = 3; kind = Length }) ≡ codes "invalid length at 3")
faults_printed = (
  ap (λ three. codes "invalid length at " ++ three) (decimal_digit 3 (lit< tt)),
  ap (λ three. codes "invalid symbol at " ++ three) (decimal_digit 3 (lit< tt)),
  ap (λ three. codes "non-zero trailing bits at " ++ three) (decimal_digit 3 (lit< tt)),
  ap (λ three. codes "invalid padding length at " ++ three) (decimal_digit 3 (lit< tt)),
  refl,
  ap (λ three. codes "invalid length at " ++ three) (decimal_digit 3 (lit< tt)),
)

refusals_printed : Hold printed_refusal (
    (BadSize, Some (codes "invalid number of symbols"))
    ∷ (NotAscii, Some (codes "non-ascii character"))
    ∷ (ExtraPadding, Some (codes "unnecessary padding"))
    ∷ (WrapLength, Some (codes "invalid wrap width or separator length"))
    ∷ (FromTo, Some (codes "translate from/to length mismatch"))
    ∷ []
    )
refusals_printed = refl

width_printed : printed_refusal (WrapWidth 8) ≡ Some (codes "wrap width not a multiple of 8")
width_printed =
    ap (λ eight. Some (codes "wrap width not a multiple of " ++ eight)) (decimal_digit 8 (lit< tt))

abbrev zero_and_one : List Judgement
zero_and_one = Define 48 (SymbolCharacter 0) ∷ Define 49 (SymbolCharacter 1) ∷ []

-- a specification is judged in this order
judgements_in_order :
    (width_of 64 ≡ Some 6) × (width_of 10 ≡ None)
    × (judgements 1 (wrapped (padded_fields (unpadded_fields (codes "01"))) 8 (codes " "))
    ≡ zero_and_one
    ++ Require false ExtraPadding ∷ Require true NotAscii ∷ Define 61 PaddingCharacter
    ∷ Require true WrapLength ∷ Require true (WrapWidth 8) ∷ Define 32 Ignored
    ∷ Require true FromTo ∷ [])
    × (symbol_judgements 4 (codes "a") ≡ Define 97 (SymbolCharacter 4) ∷ [])
    × (padding_judgements 6 None ≡ [])
    × (ignored_judgements (10 ∷ []) ≡ Define 10 Ignored ∷ [])
    × (wraps 0 (codes " ") ≡ false) × (wrapping_judgements 6 0 (codes " ") ≡ [])
    × (pair_judgements (codes "ab") (codes "AB") ≡ Translate 97 65 ∷ Translate 98 66 ∷ [])
    × (translation_judgements (codes "a") [] ≡ Require false FromTo ∷ [])
judgements_in_order = (refl, refl, refl, refl, refl, refl, refl, refl, refl, refl)

-- fields made of others
fields_made :
    (symbols_alone (codes "01") LeastSignificantFirst true
    ≡ reversed (unpadded_fields (codes "01")))
    × (mime_fields base64_fields ≡ wrapped base64_fields 76 (13 ∷ 10 ∷ []))
fields_made = (refl, refl)

-- the pairs of a specification: of a translated byte the meaning of what it is translated to
pairs_in_order :
    (pairs_after []
    (judgements 1 (translated_fields (wrapped (padded_fields (unpadded_fields (codes "01"))) 8
    (codes " ")) (codes "oO-") (codes "0o ")))
    ≡ (48, SymbolCharacter 0) ∷ (49, SymbolCharacter 1) ∷ (61, PaddingCharacter) ∷ (32, Ignored)
    ∷ (111, SymbolCharacter 0) ∷ (79, SymbolCharacter 0) ∷ (45, Ignored) ∷ [])
    × (pairs_of [] (Require true FromTo) ≡ [])
    × (pairs_of ((48, Ignored) ∷ []) (Translate 49 48) ≡ (49, Ignored) ∷ [])
    × (pairs_of [] (Translate 49 48) ≡ (49, Invalid) ∷ [])
pairs_in_order = (refl, refl, refl, refl)

abbrev two_pairs : List (ℕ × Character)
two_pairs = (48, SymbolCharacter 0) ∷ (32, Ignored) ∷ []

-- the first pair of a byte says what it means
first_pairs :
    (given two_pairs 32 ≡ Ignored) × (given two_pairs 33 ≡ Invalid)
    × (given (two_pairs ++ (32, PaddingCharacter) ∷ []) 32 ≡ Ignored)
    × (take 2 (drop 31 (meanings_by two_pairs)) ≡ Invalid ∷ Ignored ∷ [])
    × (length (meanings_by two_pairs) ≡ 128)
    × (meanings_unless None [] ≡ Ok (replicate 128 Invalid))
    × (meanings_unless (Some FromTo) two_pairs ≡ Err FromTo)
first_pairs = (refl, refl, refl, refl, refl, refl, refl)

-- a pair is refused if an earlier pair gives its byte another meaning
pairs_refused :
    (is_same (SymbolCharacter 1) (SymbolCharacter 1) ≡ true)
    × (is_same (SymbolCharacter 1) Ignored ≡ false)
    × (is_contradicted two_pairs 48 Ignored ≡ true)
    × (is_contradicted two_pairs 32 Ignored ≡ false)
    × (is_contradicted two_pairs 33 Ignored ≡ false)
    × (pair_refusal two_pairs 48 (SymbolCharacter 1) ≡ Some (Duplicate 48))
    × (pair_refusal two_pairs 48 (SymbolCharacter 0) ≡ None)
    × (pair_refusal two_pairs 33 Ignored ≡ None)
    × (pair_refusal two_pairs 128 Ignored ≡ Some NotAscii)
pairs_refused = (refl, refl, refl, refl, refl, refl, refl, refl, refl)

-- an earlier pair has to give a meaning to what a byte is translated to
translations_refused :
    (translation_refusal two_pairs 42 33 ≡ Some (Undefined 33))
    × (translation_refusal two_pairs 42 200 ≡ Some NotAscii)
    × (translation_refusal two_pairs 200 48 ≡ Some NotAscii)
    × (translation_refusal two_pairs 32 48 ≡ Some (Duplicate 32))
    × (translation_refusal two_pairs 32 32 ≡ None)
    × (judgement_refusal two_pairs (Translate 42 33) ≡ Some (Undefined 33))
    × (judgement_refusal two_pairs (Define 32 PaddingCharacter) ≡ Some (Duplicate 32))
    × (judgement_refusal two_pairs (Require false FromTo) ≡ Some FromTo)
    × (judgement_refusal two_pairs (Require true FromTo) ≡ None)
translations_refused = (refl, refl, refl, refl, refl, refl, refl, refl, refl)

-- `*` as `%` and `%` as `0`: only with `%` first; `*` as `0` twice; `*` as `0` and as a space
judged_by_earlier_pairs : Hold (first_refusal two_pairs) (
    (Translate 42 37 ∷ Translate 37 48 ∷ [], Some (Undefined 37))
    ∷ (Translate 37 48 ∷ Translate 42 37 ∷ [], None)
    ∷ (Translate 42 48 ∷ Translate 42 48 ∷ [], None)
    ∷ (Translate 42 48 ∷ Translate 42 32 ∷ [], Some (Duplicate 42))
    ∷ (Translate 42 48 ∷ Define 42 Ignored ∷ Require false FromTo ∷ [], Some (Duplicate 42))
    ∷ (Require false FromTo ∷ Define 48 Ignored ∷ [], Some FromTo)
    ∷ []
    )
judged_by_earlier_pairs = refl

-- the meanings of all bytes, or the first refusal
meanings_or_first_refusal :
    (meanings_of zero_and_one
    ≡ Ok (replicate 48 Invalid ++ SymbolCharacter 0 ∷ SymbolCharacter 1 ∷ replicate 78 Invalid))
    × (meanings_of (zero_and_one ++ Define 48 Ignored ∷ Define 49 Ignored ∷ [])
    ≡ Err (Duplicate 48))
meanings_or_first_refusal = (refl, refl)

-- without padding texts may be concatenated, and bits that can't be left over count as checked
bases_built :
    (by (λ base. base.checks_trailing_bits) (unchecked hexlower_fields) ≡ Some true)
    × (base_by None base64_fields ≡ Err BadSize)
    × (base_with 6 base64_fields (Err FromTo) ≡ Err FromTo)
bases_built = (refl, refl, refl)

entries_read :
    (map meaning_of_entry (5 ∷ 128 ∷ 129 ∷ 130 ∷ [])
    ≡ SymbolCharacter 5 ∷ Invalid ∷ Ignored ∷ PaddingCharacter ∷ [])
    × (map (is_entry_of 16) (15 ∷ 16 ∷ 127 ∷ 128 ∷ 130 ∷ 131 ∷ [])
    ≡ true ∷ false ∷ false ∷ true ∷ true ∷ false ∷ [])
entries_read = (refl, refl)

parts_of_layouts :
    (map code_of (SymbolCharacter 5 ∷ Invalid ∷ Ignored ∷ PaddingCharacter ∷ [])
    ≡ 5 ∷ 128 ∷ 129 ∷ 130 ∷ [])
    × (map order_flag (MostSignificantFirst ∷ LeastSignificantFirst ∷ []) ≡ 8 ∷ 0 ∷ [])
    × (wrapping_bytes false None ≡ []) × (wrapping_bytes true None ≡ 0 ∷ [])
    × (wrapping_bytes true (Some (record { column = 76; separator = 13 ∷ 10 ∷ [] }))
    ≡ 76 ∷ 13 ∷ 10 ∷ [])
    × (column_of None ≡ 0) × (separator_of None ≡ [])
parts_of_layouts = (refl, refl, refl, refl, refl, refl, refl)

-- `018l` of BASE32_NOPAD_VISUAL are translated, and their own bytes are `OIBI`
translated_bytes_have_own_bytes :
    (by translated_bytes base32_nopad_visual_fields ≡ Some (codes "018l"))
    × (by (λ base. map (own_byte base) (codes "018l")) base32_nopad_visual_fields
    ≡ Some (codes "OIBI"))
    × (by (λ base. own_character base (SymbolCharacter 8)) base32_nopad_visual_fields
    ≡ Some (Some 73))
    × (by (λ base. is_translated base 49 (Some 73)) base32_nopad_visual_fields ≡ Some true)
    × (by (λ base. is_translated base 33 None) base32_nopad_visual_fields ≡ Some false)
    × (by ignored_bytes base64_mime_fields ≡ Some (10 ∷ 13 ∷ []))
translated_bytes_have_own_bytes = (refl, refl, refl, refl, refl, refl)

-- byte 513 of a layout
layout_flags :
    (by (λ base. take 1 (drop 513 (layout base))) base64_fields ≡ Some (30 ∷ []))
    × (by (λ base. take 1 (drop 513 (layout base))) single_fields ≡ Some (62 ∷ []))
layout_flags = (refl, refl)

-- each of the eighteen is built from its specification
built_from_fields : Has hexlower_fields IsSpecified
built_from_fields = record { fields = hexlower_fields; is_built = refl }

kinds_printed : map printed_kind (Length ∷ Symbol ∷ Trailing ∷ Padding ∷ [])
    ≡ codes "invalid length" ∷ codes "invalid symbol" ∷ codes "non-zero trailing bits"
    ∷ codes "invalid padding length" ∷ []
kinds_printed = refl
