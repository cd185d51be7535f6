-- Worked rows for what is decoded: data, faults, lengths.
use Rattle.std.proofs.Common.{◌≡◌, ℕ, true, false, List, [], ◌∷◌, ◌++◌, length, map, drop, codes, replicate, Option, Some, None, Result, Ok, Err, refl, lit<, arith}
use Rattle.data_encoding_meaning.specs.declared.error.GroupFault.{GroupFault}
use Rattle.data_encoding_meaning.specs.declared.refusal.Refusal.{Refusal}
use Rattle.data_encoding_meaning.specs.declared.encoding.Character.TheVariants.{Symbol as SymbolCharacter, Padding as PaddingCharacter, Invalid}
use Rattle.data_encoding_meaning.specs.declared.error.DecodeError.{DecodeError}
use Rattle.data_encoding_meaning.specs.declared.error.DecodeFault.{DecodeFault}
use Rattle.data_encoding_meaning.specs.declared.error.DecodeFault.TheVariants.{Error, OutOfMemory}
use Rattle.data_encoding_meaning.specs.declared.error.DecodeKind.{DecodeKind}
use Rattle.data_encoding_meaning.specs.declared.error.DecodeKind.TheVariants.{Length, Symbol, Trailing, Padding}
use Rattle.data_encoding_meaning.specs.declared.error.DecodePartial.{DecodePartial}
use Rattle.data_encoding_meaning.specs.text.Base.{Base, meaning}
use Rattle.data_encoding_meaning.specs.laws.Canonical.{has_one_text}
use Rattle.data_encoding_meaning.specs.decoding.Fault.{IsRefusal, bytes_of_group, character_fault, count_before_padding, fault_after, fault_at, fault_at_first, faulty_at, first_after, first_fault, group_fault, located, or_else, padded_fault_at, plain_fault, position_of, sound_after, sound_groups, symbol_bits, symbol_bytes, symbols_fault, trailing_bits, trailing_fault}
use Rattle.data_encoding_meaning.specs.specification.Fields.{Fields, base_of}
use Rattle.data_encoding_meaning.specs.text.Grammar.{Positioned, positioned_from, positioned, kept, groups, is_final, kept_in, bytes_in, meanings_in, ends_text}
use Rattle.data_encoding_meaning.specs.specification.Layout.{layout, fields_of}
use Rattle.data_encoding_meaning.specs.text.Lengths.{alignment, decoded_len, greatest_valid_count, is_valid_count, is_valid_length, greatest_valid_length, length_fault, most_bytes, unless_fault, align_by}
use Rattle.data_encoding_meaning.specs.decoding.Partial.{partial_of, position_after, position_after_first, sound_len, ignoring_nothing, is_sound_run, is_length_fault, read_len, partial_at, partial_by}
use Rattle.data_encoding_meaning.specs.decoding.Pieces.{unfinished, whole_bytes, whole_groups, held_fault, held_with, bytes_unless, fault_in}
use Rattle.data_encoding_meaning.specs.specification.Predefined.{translated_fields, hexlower_fields, hexlower_permissive_fields, hexupper_fields, hexupper_permissive_fields, base32_fields, base32_nopad_fields, base32_nopad_nocase_fields, base32_nopad_visual_fields, base32_dnssec_fields, base32_dnscurve_fields, base64_fields, base64_nopad_fields, base64_mime_fields, base64_mime_permissive_fields}
use Rattle.data_encoding_meaning.specs.laws.Laws.{shifted}
use Rattle.data_encoding_meaning.specs.text.Text.{text_of}
use Rattle.data_encoding_meaning.proofs.vectors.Examples.{Hold, built, by, decoded, bytes, fault, octal_fields, reversed, unchecked, nopad_ignoring_lf_fields, lines_of_8_fields, single_fields}

-- one text that is decoded in different ways by those with the same symbols and padding
predefined_readings :
    Hold (λ fields. decoded fields (codes "aB")) (
    (hexlower_fields, fault Symbol 1)
    ∷ (hexlower_permissive_fields, bytes (171 ∷ []))
    ∷ (hexupper_fields, fault Symbol 0)
    ∷ (hexupper_permissive_fields, bytes (171 ∷ []))
    ∷ []
    )
    × Hold (λ fields. decoded fields (codes "la")) (
    (base32_nopad_fields, fault Symbol 0)
    ∷ (base32_nopad_nocase_fields, bytes (88 ∷ []))
    ∷ (base32_nopad_visual_fields, fault Symbol 1)
    ∷ []
    )
    × Hold (λ fields. decoded fields (codes "vgz=")) (
    (base64_mime_fields, fault Trailing 2)
    ∷ (base64_mime_permissive_fields, bytes (190 ∷ 12 ∷ []))
    ∷ []
    )
predefined_readings = (refl, refl, refl)

-- if texts are not concatenated, no group follows a padded one; without padding it has no effect
single_readings : Hold (decoded single_fields) (
    (codes "AA==A===", fault Padding 4)
    ∷ (codes "AA==AA==", fault Padding 4)
    ∷ (codes "AA==!!!!", fault Padding 4)
    ∷ (codes "AA==A", fault Length 4)
    ∷ (codes "AAAAAA==", bytes (0 ∷ 0 ∷ 0 ∷ 0 ∷ []))
    ∷ []
    )
    × (by (λ base. base.concatenates) single_fields ≡ Some false)
    × (by (λ base. base.concatenates) (record base64_nopad_fields { concatenates = false })
    ≡ Some true)
    × (by (λ base. drop 512 (layout base)) single_fields ≡ Some (61 ∷ 62 ∷ []))
    × (by fields_of single_fields ≡ Some single_fields)
single_readings = (refl, refl, refl, refl, refl)

-- the length of a whole text is judged first, padding before symbols, and trailing bits last
base64_readings : Hold (decoded base64_fields) (
    (codes "!AAAAA", fault Length 4)
    ∷ (codes "AAB", fault Length 0)
    ∷ (codes "====", fault Padding 0)
    ∷ (codes "!===", fault Padding 1)
    ∷ (codes "===A", fault Symbol 0)
    ∷ (codes "AA=A", fault Symbol 2)
    ∷ (codes "AA==A!==", fault Symbol 5)
    ∷ (codes "AAB=", fault Trailing 2)
    ∷ (codes "AA==AAA=", bytes (0 ∷ 0 ∷ 0 ∷ []))
    ∷ (codes "SGVsbG8gd29ybGQ=", bytes (codes "Hello world"))
    ∷ []
    )
base64_readings = refl

-- bytes that are ignored count in a position, and in no group
mime_readings : Hold (decoded base64_mime_fields) (
    (codes "AAA", fault Length 0)
    ∷ (codes "SG" ++ 10 ∷ codes "Vs", bytes (codes "Hel"))
    ∷ (codes "A" ++ 10 ∷ codes "A=A", fault Symbol 3)
    ∷ (codes "AAAA" ++ 13 ∷ 10 ∷ codes "AB==", fault Trailing 7)
    ∷ []
    )
mime_readings = refl

other_readings : Hold (λ (row : Fields × List ℕ). decoded row.0 row.1) (
    ((hexlower_fields, codes "4G"), fault Symbol 1)
    ∷ ((hexlower_fields, 48 ∷ 200 ∷ []), fault Symbol 1)
    ∷ ((base64_nopad_fields, codes "A!A"), fault Symbol 1)
    ∷ ((base64_nopad_fields, codes "AAB"), fault Trailing 2)
    ∷ ((base64_nopad_fields, codes "AAAAA"), fault Length 4)
    ∷ ((reversed base64_nopad_fields, codes "AAB"), bytes (0 ∷ 16 ∷ []))
    ∷ ((reversed base64_nopad_fields, codes "AAQ"), fault Trailing 2)
    ∷ ((unchecked octal_fields, codes "205"), bytes (codes "B"))
    ∷ ((base32_fields, codes "MZX====="), fault Padding 3)
    ∷ ((base32_dnssec_fields, codes "CPNMUOJ1E8"), bytes (codes "foobar"))
    ∷ ((base32_dnscurve_fields, codes "432Z"), fault Trailing 3)
    ∷ []
    )
other_readings = refl

-- how far a text is read that has a fault
abbrev partial : DecodeKind → ℕ → ℕ → ℕ → Option (Option DecodePartial)
partial kind position read written =
    Some (Some (record {
      read = read;
      written = written;
      error = record { position = position; kind = kind };
    }))

partials : Hold (λ (row : Fields × List ℕ). by (λ base. partial_of base row.1) row.0) (
    ((nopad_ignoring_lf_fields, codes "AAAA" ++ 10 ∷ codes "A"), partial Length 5 4 3)
    ∷ (
      (nopad_ignoring_lf_fields, codes "AAAAAAA" ++ 10 ∷ codes "A" ++ 10 ∷ codes "A"),
      partial Length 10 9 6,
    )
    ∷ (
      (nopad_ignoring_lf_fields, codes "AAAA" ++ replicate 4 10 ++ codes "A"),
      partial Length 8 4 3,
    )
    ∷ ((base64_mime_fields, codes "AAAA" ++ 10 ∷ codes "A"), partial Length 5 5 3)
    ∷ ((base64_mime_fields, codes "AAAA" ++ 10 ∷ codes "AA" ++ 10 ∷ []), partial Length 5 4 3)
    ∷ ((base64_fields, codes "AAAA===="), partial Padding 4 4 3)
    ∷ ((hexlower_fields, codes "484G"), partial Symbol 3 2 1)
    ∷ ((hexlower_fields, codes "4865"), Some None)
    ∷ []
    )
partials = refl

-- what was decoded of a text so far, and what is held
abbrev so_far : List ℕ
so_far = codes "SGVsbG" ++ 13 ∷ 10 ∷ []

pieces :
    (by (λ base. whole_bytes base so_far) base64_mime_fields ≡ Some (codes "Hel"))
    × (by (λ base. unfinished base so_far) base64_mime_fields
    ≡ Some (record { position = 4; byte = 98 } ∷ record { position = 5; byte = 71 } ∷ []))
pieces = (refl, refl)

-- the lengths below ten that symbols of a width may have, or the one before
valid_lengths :
    (map (greatest_valid_count 1) (7 ∷ 8 ∷ 9 ∷ []) ≡ 0 ∷ 8 ∷ 8 ∷ [])
    × (map (greatest_valid_count 3) (2 ∷ 3 ∷ 4 ∷ 5 ∷ 6 ∷ 7 ∷ []) ≡ 0 ∷ 3 ∷ 3 ∷ 3 ∷ 6 ∷ 6 ∷ [])
    × (map (greatest_valid_count 5) (1 ∷ 2 ∷ 3 ∷ 4 ∷ 5 ∷ 6 ∷ 7 ∷ 8 ∷ 9 ∷ [])
    ≡ 0 ∷ 2 ∷ 2 ∷ 4 ∷ 5 ∷ 5 ∷ 7 ∷ 8 ∷ 8 ∷ [])
    × (map (greatest_valid_count 6) (1 ∷ 2 ∷ 3 ∷ 5 ∷ []) ≡ 0 ∷ 2 ∷ 3 ∷ 4 ∷ [])
valid_lengths = (refl, refl, refl, refl)

abbrev length_fault_at : ℕ → Option (Result ℕ DecodeError)
length_fault_at position = Some (Err (record { position = position; kind = Length }))

decoded_lengths : Hold (λ (row : Fields × ℕ). by (λ base. decoded_len base row.1) row.0) (
    ((base64_fields, 8), Some (Ok 6))
    ∷ ((base64_fields, 6), length_fault_at 4)
    ∷ ((base64_nopad_fields, 5), length_fault_at 4)
    ∷ ((base64_nopad_fields, 7), Some (Ok 5))
    ∷ ((base64_mime_fields, 3), Some (Ok 0))
    ∷ ((base64_mime_fields, 9), Some (Ok 6))
    ∷ ((nopad_ignoring_lf_fields, 6), Some (Ok 4))
    ∷ ((base32_nopad_fields, 6), length_fault_at 5)
    ∷ []
    )
decoded_lengths = refl

alignments : Hold (by alignment) (
    (hexlower_fields, Some 1)
    ∷ (base32_fields, Some 5)
    ∷ (base64_fields, Some 3)
    ∷ (base64_mime_fields, Some 57)
    ∷ (lines_of_8_fields, Some 6)
    ∷ []
    )
alignments = refl

-- data has one text, unless padded texts may be concatenated, trailing bits are not checked, or a
-- byte is ignored or translated
one_text : Hold (by has_one_text) (
    (hexlower_fields, Some true)
    ∷ (base64_nopad_fields, Some true)
    ∷ (base64_fields, Some false)
    ∷ (record base64_fields { concatenates = false }, Some true)
    ∷ (unchecked base64_nopad_fields, Some false)
    ∷ (nopad_ignoring_lf_fields, Some false)
    ∷ (hexlower_permissive_fields, Some false)
    ∷ (
      translated_fields (record base64_fields { concatenates = false }) (codes "~") (codes "="),
      Some false,
    )
    ∷ []
    )
one_text = refl

abbrev RefusesBy : Result Base Refusal → List ℕ → DecodeFault → Type 0
RefusesBy (Ok base) text fault = IsRefusal base text fault
RefusesBy (Err refusal) text fault = ⊥

-- memory is allocated if bytes are due, and after the length was judged
refusals_of_texts :
    RefusesBy (base_of hexlower_fields) (codes "4G")
    (Error (record { position = 1; kind = Symbol }))
    × RefusesBy (base_of hexlower_fields) (codes "4G") OutOfMemory
    × (RefusesBy (base_of hexlower_fields) (codes "4G4") OutOfMemory → ⊥)
    × (RefusesBy (base_of base64_mime_fields) (codes "AAA") OutOfMemory → ⊥)
refusals_of_texts = (refl, (refl, lit< tt), λ h. let e = h.0 in cc, λ h. omega (arith, h.1))

-- a text with a fault is refused for this fault
refusal_is_fault : (error : DecodeError)
    → IsRefusal (built hexlower_fields) (codes "4G") (Error error)
    → record { position = 1; kind = Symbol } ≡ error
refusal_is_fault error is = cc

-- how far a text is read, given a fault at 3: only that of a length is read up to
read_by_kind :
    by (λ base. map (λ kind. read_len base (codes "AAAA") (record { position = 3; kind = kind }))
    (Symbol ∷ Length ∷ [])) base64_nopad_fields ≡ Some (4 ∷ 3 ∷ [])
read_by_kind = refl

abbrev letter_at_4 : Positioned
letter_at_4 = record { position = 4; byte = 108 }

-- the kept bytes of a text, with their positions, in groups
groups_of_text :
    (positioned (codes "lo") ≡ positioned_from 0 (codes "lo"))
    × (positioned_from 4 (codes "lo")
    ≡ letter_at_4 ∷ record { position = 5; byte = 111 } ∷ [])
    × (by (λ base. kept base (codes "SG" ++ 10 ∷ codes "Vs")) base64_mime_fields
    ≡ Some (positioned_from 0 (codes "SG") ++ positioned_from 3 (codes "Vs")))
    × (by (λ base. groups base (codes "AA==AAA=")) base64_fields
    ≡ Some (positioned_from 0 (codes "AA==") ∷ positioned_from 4 (codes "AAA=") ∷ []))
    × (by (λ base. kept_in base 7 (10 ∷ codes "Vs")) base64_mime_fields
    ≡ Some (positioned_from 8 (codes "Vs")))
groups_of_text = (refl, refl, refl, refl, refl)

final_groups :
    (by (λ base. is_final base (positioned (codes "AA=="))) base64_fields ≡ Some false)
    × (by (λ base. map (is_final base) (groups base (codes "AAAAAA=="))) single_fields
    ≡ Some (false ∷ true ∷ []))
    × (by (λ base. ends_text base (SymbolCharacter 0 ∷ PaddingCharacter ∷ [])) single_fields
    ≡ Some true)
final_groups = (refl, refl, refl)

-- the bits of `AB`, the bytes of them and what is left
bits_of_groups :
    (by (λ base. symbol_bits base (map (meaning base) (codes "AB"))) base64_nopad_fields
    ≡ Some (replicate 11 0 ++ 1 ∷ []))
    × (by (λ base. symbol_bytes base (map (meaning base) (codes "AB"))) base64_nopad_fields
    ≡ Some (0 ∷ []))
    × (by (λ base. bytes_of_group base (positioned_from 4 (codes "AB"))) base64_nopad_fields
    ≡ Some (0 ∷ []))
    × (by (λ base. trailing_bits base (map (meaning base) (codes "AB"))) base64_nopad_fields
    ≡ Some (0 ∷ 0 ∷ 0 ∷ 1 ∷ []))
    × (bytes_in (positioned_from 4 (codes "AB")) ≡ codes "AB")
    × (by (λ base. meanings_in base (positioned_from 4 (codes "A="))) base64_fields
    ≡ Some (SymbolCharacter 0 ∷ PaddingCharacter ∷ []))
bits_of_groups = (refl, refl, refl, refl, refl, refl)

abbrev at : DecodeKind → ℕ → Option DecodeError
at kind position = Some (record { position = position; kind = kind })

-- the faults of groups, by index
faults_of_symbols : Hold (λ text.
    by {A = Option GroupFault × Option GroupFault} (λ base. (
      trailing_fault base (map (meaning base) text),
      symbols_fault base (map (meaning base) text),
    )) base64_nopad_fields) (
    (codes "AA", Some (None, None))
    ∷ (codes "AB", Some (faulty_at Trailing 1, faulty_at Trailing 1))
    ∷ (codes "A!", Some (None, faulty_at Symbol 1))
    ∷ []
    )
faults_of_symbols = refl

faults_of_groups :
    (fault_at_first (Some 1) None ≡ Some (record { index = 1; kind = Symbol }))
    × (fault_at_first None (faulty_at Trailing 1) ≡ faulty_at Trailing 1)
    × (by (λ base. plain_fault base (map (meaning base) (codes "A"))) base64_nopad_fields
    ≡ Some (faulty_at Length 0))
    × (by (λ base. count_before_padding (map (meaning base) (codes "A==="))) base64_fields ≡ Some 1)
    × (by (λ base. padded_fault_at base (map (meaning base) (codes "A===")) 1) base64_fields
    ≡ Some (faulty_at Padding 1))
    × (by (λ base. character_fault base (map (meaning base) (codes "A==="))) base64_fields
    ≡ Some (faulty_at Padding 1))
    × (by (λ base. group_fault base (codes "A===")) base64_fields ≡ Some (faulty_at Padding 1))
    × (by (λ base. group_fault base (codes "A")) base64_nopad_fields ≡ Some (faulty_at Length 0))
faults_of_groups = (refl, refl, refl, refl, refl, refl, refl, refl)

-- and at the positions of a group that begins at 4
located_faults :
    (position_of (positioned_from 4 (codes "AA==")) 2 ≡ 6)
    × (fault_at Padding (positioned_from 4 (codes "AA==")) 2 ≡ at Padding 6)
    × (located (positioned_from 4 (codes "A!")) (faulty_at Symbol 1) ≡ at Symbol 5)
    × (located (positioned_from 4 (codes "AA")) None ≡ None)
    × (by (λ base. fault_after false base (positioned_from 4 (codes "A==="))) base64_fields
    ≡ Some (at Padding 5))
    × (by (λ base. fault_after false base (positioned_from 4 (codes "A"))) base64_nopad_fields
    ≡ Some (at Length 4))
located_faults = (refl, refl, refl, refl, refl, refl)

-- the second of three groups has a fault; after a final one any group has
faults_of_lists :
    (by (λ base. first_fault base (groups base (codes "AAAA!AAAA!AA"))) base64_fields
    ≡ Some (at Symbol 4))
    × (by (λ base. sound_groups base (groups base (codes "AAAA!AAAAAAA"))) base64_fields
    ≡ Some (positioned_from 0 (codes "AAAA") ∷ []))
    × (by (λ base. fault_after true base (positioned_from 4 (codes "AAAA"))) base64_fields
    ≡ Some (at Padding 4))
    × (by (λ base. first_after true base (groups base (codes "AAAA"))) base64_fields
    ≡ Some (at Padding 0))
    × (by (λ base. sound_after true base (groups base (codes "AAAA"))) base64_fields ≡ Some [])
    × (or_else (at Symbol 4) (at Length 8) ≡ at Symbol 4)
    × (or_else None (at Length 8) ≡ at Length 8)
faults_of_lists = (refl, refl, refl, refl, refl, refl, refl)

-- the position after the groups before the faulty one, and what a last run does
partials_by_steps :
    (position_after (positioned_from 4 (codes "AB")) ≡ 6)
    × (position_after_first (positioned_from 4 (codes "AB")) ≡ 5)
    × (position_after [] ≡ 0)
    × (by (λ base. sound_len base (codes "AAAA!A")) base64_nopad_fields ≡ Some 4)
    × (by (λ base. map (meaning (ignoring_nothing base)) (10 ∷ 65 ∷ [])) base64_mime_fields
    ≡ Some (Invalid ∷ SymbolCharacter 0 ∷ []))
    × (by (λ base. map (is_sound_run base) (codes "AAA" ∷ (codes "A" ++ 10 ∷ codes "A") ∷ []))
    nopad_ignoring_lf_fields ≡ Some (true ∷ false ∷ []))
    × (map is_length_fault (Length ∷ Symbol ∷ []) ≡ true ∷ false ∷ [])
    × (by (λ base. read_len base (codes "AAAA!A") (record { position = 4; kind = Symbol }))
    base64_nopad_fields ≡ Some 4)
    × (by (λ base. partial_at base (codes "AAAA!A") (record { position = 4; kind = Symbol }))
    base64_nopad_fields ≡ Some (record {
      read = 4;
      written = 3;
      error = record { position = 4; kind = Symbol };
    }))
    × (by (λ base. partial_by base (codes "AAAA") None) base64_nopad_fields ≡ Some None)
partials_by_steps = (refl, refl, refl, refl, refl, refl, refl, refl, refl, refl)

lengths_of_texts :
    (map (is_valid_count 6) (0 ∷ 1 ∷ 2 ∷ 3 ∷ 4 ∷ []) ≡ true ∷ false ∷ true ∷ true ∷ true ∷ [])
    × Hold (by (λ base. map (is_valid_length base) (4 ∷ 6 ∷ []))) (
    (base64_fields, Some (true ∷ false ∷ []))
    ∷ (base64_nopad_fields, Some (true ∷ true ∷ []))
    ∷ []
    )
    × Hold (by (λ base. greatest_valid_length base 6)) (
    (base64_fields, Some 4) ∷ (base64_nopad_fields, Some 6) ∷ [])
    × Hold (by (λ base. length_fault base 5)) (
    (base64_fields, Some (at Length 4))
    ∷ (base64_nopad_fields, Some (at Length 4))
    ∷ (base64_mime_fields, Some None)
    ∷ []
    )
    × Hold (by (λ base. most_bytes base 9)) (
    (base64_fields, Some 6) ∷ (base64_nopad_fields, Some 6) ∷ (hexlower_fields, Some 4) ∷ [])
    × (unless_fault None 6 ≡ Ok 6)
    × (unless_fault (at Length 4) 6 ≡ Err (record { position = 4; kind = Length }))
    × (align_by None 5 ≡ 5)
    × (align_by (Some (record { column = 76; separator = 13 ∷ 10 ∷ [] })) 6 ≡ 57)
lengths_of_texts = (refl, refl, refl, refl, refl, refl, refl, refl, refl)

-- what is kept between pieces of a text, and what follows from it
pieces_by_steps :
    (by (λ base. whole_groups base so_far) base64_mime_fields
    ≡ Some (positioned (codes "SGVs") ∷ []))
    × (by (λ base. held_fault false base (positioned_from 4 (codes "bG"))) base64_mime_fields
    ≡ Some (at Length 4))
    × (by (λ base. held_fault true base (positioned_from 4 (codes "bG8="))) base64_mime_fields
    ≡ Some (at Padding 4))
    × (by (λ base. held_fault true base []) base64_mime_fields ≡ Some None)
    × (by (λ base. held_with base 8 (positioned_from 4 (codes "bG")) (10 ∷ codes "8="))
    base64_mime_fields
    ≡ Some (positioned_from 4 (codes "bG") ++ positioned_from 9 (codes "8=")))
    × (by (λ base. bytes_unless None base (positioned_from 4 (codes "bG8="))) base64_mime_fields
    ≡ Some (codes "lo"))
    × (by (λ base. bytes_unless (at Symbol 4) base (positioned_from 4 (codes "!G8=")))
    base64_mime_fields ≡ Some [])
    × (fault_in (positioned_from 4 (codes "b!8=")) (at Symbol 1) ≡ at Symbol 5)
    × (fault_in (positioned_from 4 (codes "bG8=")) None ≡ None)
pieces_by_steps = (refl, refl, refl, refl, refl, refl, refl, refl, refl)

-- a fault with this many bytes added to its position
found_further : (shifted 4 (at Symbol 1) ≡ at Symbol 5) × (shifted 4 None ≡ None)
found_further = (refl, refl)

-- The reasons for the premises of laws. What follows may remove the fault of an unfinished group;
-- texts that differ in an ignored byte have their faults at different positions; by its length
-- alone a padded text may mean more than was encoded, and padding is no symbol; data of other
-- lengths has texts of other lengths.
premises_needed :
    Hold (λ (row : Fields × List ℕ). decoded row.0 row.1) (
    ((base64_nopad_fields, codes "A"), fault Length 0)
    ∷ ((base64_nopad_fields, codes "AA"), bytes (0 ∷ []))
    ∷ ((base64_mime_fields, codes "A!AA"), fault Symbol 1)
    ∷ ((base64_mime_fields, 10 ∷ codes "A!AA"), fault Symbol 2)
    ∷ ((base64_fields, codes "AA=="), bytes (0 ∷ []))
    ∷ []
    )
    × (by (λ base. decoded_len base (length (text_of base (0 ∷ [])))) base64_fields
    ≡ Some (Ok 3))
    × (by (λ base. meanings_in base (positioned (codes "A="))) base64_fields
    ≡ Some (SymbolCharacter 0 ∷ PaddingCharacter ∷ []))
    × (by (λ base. map (λ bytes. length (text_of base bytes)) ([] ∷ (0 ∷ []) ∷ [])) hexlower_fields
    ≡ Some (0 ∷ 2 ∷ []))
premises_needed = (refl, refl, refl, refl)
