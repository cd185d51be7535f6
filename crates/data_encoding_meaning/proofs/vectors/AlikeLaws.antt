-- Worked rows of the laws of texts that mean the same, and of layouts.
use Rattle.std.proofs.Common.{◌≡◌, ℕ, List, ◌∷◌, ◌++◌, map, codes, get_or, refl, ap, arith}
use Rattle.data_encoding_meaning.specs.text.Base.{Base, meaning}
use Rattle.data_encoding_meaning.specs.text.Grammar.{Means}
use Rattle.data_encoding_meaning.specs.text.Text.{text_of}
use Rattle.data_encoding_meaning.specs.decoding.Fault.{fault_of}
use Rattle.data_encoding_meaning.specs.specification.Fields.{IsSpecified}
use Rattle.data_encoding_meaning.specs.specification.Layout.{layout}
use Rattle.data_encoding_meaning.specs.specification.OneLayout.{IsLayout, Layouts, OneLayout}
use Rattle.data_encoding_meaning.specs.specification.Predefined.{base32_dnssec_fields, base64_fields, base64_mime_fields, base64url_fields}
use Rattle.data_encoding_meaning.specs.laws.SameMeaning.{OwnForm, OwnForms, OwnText, SameButSymbols, SameKeptBytes, Translated, exchanged}
use Rattle.data_encoding_meaning.proofs.vectors.Examples.{built}
use Rattle.data_encoding_meaning.proofs.vectors.Laws.{is_specified}

-- LF among the characters changes nothing
lines_alike : SameKeptBytes → (bytes : List ℕ)
    → Means (built base64_mime_fields) (codes "SG" ++ 10 ∷ codes "Vs") bytes
    → Means (built base64_mime_fields) (codes "SGVs") bytes
lines_alike law bytes =
    law (built base64_mime_fields) (is_specified base64_mime_fields refl)
    (codes "SG" ++ 10 ∷ codes "Vs") (codes "SGVs") bytes refl

-- names of DNSSEC in either case: the fault, what is meant, and the own form
case_alike : Translated
    → (fault_of (built base32_dnssec_fields) (codes "CPNM!")
    ≡ fault_of (built base32_dnssec_fields) (codes "cpnm!"))
    × ((bytes : List ℕ) → Means (built base32_dnssec_fields) (codes "CO") bytes
    → Means (built base32_dnssec_fields) (codes "co") bytes)
case_alike law =
    let base = built base32_dnssec_fields in
    let is = is_specified base32_dnssec_fields refl in (
      (law base is (codes "CPNM!") (codes "cpnm!") refl).0,
      (law base is (codes "CO") (codes "co") refl).1,
    )

-- each byte of the own form means the same as the byte at its position
own_form_keeps_meanings : OwnForm
    → map (meaning (built base32_dnssec_fields)) (codes "0P9mWw")
    ≡ map (meaning (built base32_dnssec_fields)) (codes "0p9mWw")
own_form_keeps_meanings law =
    law (built base32_dnssec_fields) (is_specified base32_dnssec_fields refl) (codes "0P9mWw")

-- `CO` and `co` have one own form and mean the same data. `CO` and `cs` do not.
own_forms_decide_data : OwnForms → (bytes others : List ℕ)
    → Means (built base32_dnssec_fields) (codes "CO") bytes
    → (Means (built base32_dnssec_fields) (codes "co") others → bytes ≡ others)
    × (Means (built base32_dnssec_fields) (codes "cs") others → bytes ≡ others → ⊥)
own_forms_decide_data law bytes others means =
    let base = built base32_dnssec_fields in
    let is = is_specified base32_dnssec_fields refl in (
      (λ other. (law base is refl (codes "CO") (codes "co") bytes others means other).1 refl),
      (λ other same.
          let last : 111 ≡ 115 = ap (λ l. get_or l 1 0)
          ((law base is refl (codes "CO") (codes "cs") bytes others means other).0 same) in
          omega (arith, last)),
    )

-- `co` is the text of the data that `CO` means
own_form_is_text_of_data : OwnText → (bytes : List ℕ)
    → Means (built base32_dnssec_fields) (codes "CO") bytes
    → codes "co" ≡ text_of (built base32_dnssec_fields) bytes
own_form_is_text_of_data law bytes means =
    law (built base32_dnssec_fields) (is_specified base32_dnssec_fields refl) refl
    (codes "CO") bytes
    means

-- the text of data in base64url, by that in base64
symbols_exchanged : SameButSymbols → (bytes : List ℕ) → text_of (built base64url_fields) bytes
    ≡ map (exchanged (built base64_fields) (built base64url_fields))
    (text_of (built base64_fields) bytes)
symbols_exchanged law bytes =
    law (built base64_fields) (built base64url_fields) (is_specified base64_fields refl)
    (record { width = refl; order = refl; padded = refl; wrapping = refl }) bytes

-- a base with the layout of base64 is that of base64
layout_is_one : OneLayout → (base : Base) → IsSpecified base
    → layout base ≡ layout (built base64_fields) → base ≡ built base64_fields
layout_is_one law base is same =
    law base (built base64_fields) is (is_specified base64_fields refl) same

-- the layout of BASE64_MIME keeps the rules, and bytes that keep them are the layout of a base
layouts_are_of_bases : Layouts → IsLayout (layout (built base64_mime_fields))
    × ((bytes : List ℕ) → IsLayout bytes
    → (base : Base) × IsSpecified base × (layout base ≡ bytes))
layouts_are_of_bases law = (
  (law (layout (built base64_mime_fields))).0
      (built base64_mime_fields, is_specified base64_mime_fields refl, refl),
  λ bytes rules. (law bytes).1 rules,
)
