-- Worked rows of texts that mean the same.
use Rattle.std.proofs.Common.{◌≡◌, ℕ, true, false, List, [], ◌∷◌, ◌++◌, codes, Option, Some, length, refl, sym, ap, arith}
use Rattle.std.proofs.lemmas.Bool.{false≢true}
use Rattle.std.proofs.lemmas.List.Elements.{All-from_recursion, recursion_from_All}
use Rattle.data_encoding_meaning.specs.text.Base.{is_invalid, meaning}
use Rattle.data_encoding_meaning.specs.specification.Fields.{Fields}
use Rattle.data_encoding_meaning.specs.specification.Predefined.{base32_dnssec_fields, base64_fields, base64_mime_fields, base64_nopad_fields, base64url_fields, hexlower_fields, hexupper_fields, translated_fields}
use Rattle.data_encoding_meaning.specs.laws.SameMeaning.{DifferInSymbols, DifferInSymbolsAlone, IsInvalidInBoth, exchanged, exchanged_text, has_one_own_form, kept_bytes, own_form}
use Rattle.data_encoding_meaning.proofs.vectors.Examples.{Has, Hold, built, by, ignoring, nopad_ignoring_lf_fields, single_fields, unchecked}

-- two consecutive ignored bytes, and one at the end
kept_of_lines : by (λ base. kept_bytes base (codes "SG" ++ 13 ∷ 10 ∷ codes "Vs" ++ 10 ∷ []))
    base64_mime_fields ≡ Some (codes "SGVs")
kept_of_lines = refl

-- a text of one encoding with the characters of another
abbrev exchange : Fields → Fields → List ℕ → Option (Option (List ℕ))
exchange fields others text =
    by (λ base. by (λ other. exchanged_text base other text) others) fields

characters_exchanged :
    (exchange base64_fields base64url_fields (codes "+A/w=") ≡ Some (Some (codes "-A_w=")))
    × (exchange hexlower_fields hexupper_fields (codes "4a") ≡ Some (Some (codes "4A")))
    × (exchange base64_fields (record base64_fields { padding = Some 126 }) (codes "AA==")
    ≡ Some (Some (codes "AA~~")))
    × (exchange base64_mime_fields base64_fields (codes "A!" ++ 10 ∷ [])
    ≡ Some (Some (codes "A!" ++ 10 ∷ [])))
characters_exchanged = (refl, refl, refl, refl)

-- the byte of a symbol
byte_exchanged : by (λ base. by (λ other. exchanged base other 43) base64url_fields) base64_fields
    ≡ Some (Some 45)
byte_exchanged = refl

-- names in either case, and what means nothing; padding that is translated
own_forms_of_texts :
    (by (λ base. own_form base (codes "0P9mWw")) base32_dnssec_fields
    ≡ Some (codes "0p9mWw"))
    × (by (λ base. own_form base (codes "AA=~"))
    (translated_fields single_fields (codes "~") (codes "=")) ≡ Some (codes "AA=="))
own_forms_of_texts = (refl, refl)

-- trailing bits, padding that texts may follow, and ignored bytes give a second text
forms_counted : Hold (λ fields. by has_one_own_form fields) (
    (base32_dnssec_fields, Some true)
    ∷ (hexlower_fields, Some true)
    ∷ (unchecked base64_nopad_fields, Some false)
    ∷ (base64_fields, Some false)
    ∷ (single_fields, Some true)
    ∷ (base64_mime_fields, Some false)
    ∷ (nopad_ignoring_lf_fields, Some false)
    ∷ [])
forms_counted = refl

-- base64 and base64url, and hexadecimal in either case
differing_in_symbols :
    Has base64_fields (λ base. Has base64url_fields (λ other. DifferInSymbols base other))
    × Has hexlower_fields (λ base. Has hexupper_fields (λ other. DifferInSymbols base other))
differing_in_symbols = (
  record { width = refl; order = refl; padded = refl; wrapping = refl },
  record { width = refl; order = refl; padded = refl; wrapping = refl },
)

-- base64 and base64url, and not base64 that ends with its first padded group, does not check
-- trailing bits, or ignores LF
differing_in_symbols_alone :
    Has base64_fields (λ base. Has base64url_fields (λ other. DifferInSymbolsAlone base other)
    × Has single_fields (λ other. DifferInSymbolsAlone base other → ⊥)
    × Has (unchecked base64_fields) (λ other. DifferInSymbolsAlone base other → ⊥)
    × Has (ignoring base64_fields (10 ∷ [])) (λ other. DifferInSymbolsAlone base other → ⊥))
differing_in_symbols_alone = (
  record {
    in_symbols = record { width = refl; order = refl; padded = refl; wrapping = refl };
    checks = refl;
    concatenates = refl;
    ignored = refl;
  },
  (λ differ. false≢true (sym differ.concatenates)),
  (λ differ. false≢true (sym differ.checks)),
  (λ differ. let one : 0 ≡ 1 = ap length differ.ignored in absurd (omega (arith, one))),
)

-- `!` means nothing in either, and `-` something in base64url
invalid_in_both :
    Has base64_fields (λ base. Has base64url_fields (λ url.
    IsInvalidInBoth base url (codes "+!") × (IsInvalidInBoth base url (codes "-") → ⊥)))
invalid_in_both =
    let base = built base64_fields in
    let url = built base64url_fields in
    let stays = λ (byte : ℕ).
    is_invalid (meaning base byte) ≡ true → is_invalid (meaning url byte) ≡ true in (
      All-from_recursion stays (codes "+!") ((λ h. absurd (false≢true h)), ((λ h. refl), tt)),
      (λ all. false≢true ((recursion_from_All stays (codes "-") all).0 refl)),
    )
