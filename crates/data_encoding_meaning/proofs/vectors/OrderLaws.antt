-- Worked rows of the laws of canonical encodings and of order.
use Rattle.std.proofs.Common.{◌≡◌, ℕ, ◌<◌, List, codes, refl, lit<}
use Rattle.std.proofs.lemmas.Bool.{false≢true}
use Rattle.std.proofs.lemmas.List.Elements.{All-from_recursion}
use Rattle.data_encoding_meaning.specs.text.Base.{Base}
use Rattle.data_encoding_meaning.specs.text.Grammar.{Means}
use Rattle.data_encoding_meaning.specs.specification.Predefined.{base32_dnscurve_fields, base32_dnssec_fields, base32_fields, base32_nopad_fields, base32_nopad_nocase_fields, base32_nopad_visual_fields, base32hex_fields, base32hex_nopad_fields, base64_fields, base64_mime_fields, base64_mime_permissive_fields, base64_nopad_fields, base64url_fields, base64url_nopad_fields, hexlower_fields, hexlower_permissive_fields, hexupper_fields, hexupper_permissive_fields}
use Rattle.data_encoding_meaning.specs.laws.Canonical.{Canonical, IsCanonical}
use Rattle.data_encoding_meaning.specs.laws.Compared.{CompareAlike, OrderOfData, OrderOfTexts}
use Rattle.data_encoding_meaning.specs.laws.Eighteen.{CanonicalByCauses, SixAreCanonical, SixAreOrdered}
use Rattle.data_encoding_meaning.specs.laws.Laws.{Order}
use Rattle.data_encoding_meaning.specs.laws.Order.{IsOrdered, KeepsOrder}
use Rattle.data_encoding_meaning.proofs.vectors.Examples.{built}
use Rattle.data_encoding_meaning.proofs.vectors.Laws.{is_specified}

-- the only text of hexadecimal that means `J` is `4a`
hexadecimal_has_one_text : Canonical → (text : List ℕ)
    → Means (built hexlower_fields) text (codes "J")
    → text ≡ codes "4a"
hexadecimal_has_one_text law text means =
    law (built hexlower_fields) (is_specified hexlower_fields refl) refl text (codes "J") means

-- hexadecimal has no cause of a second text and is canonical, and base64 has one
canonical_without_causes : CanonicalByCauses
    → IsCanonical (built hexlower_fields) × (IsCanonical (built base64_fields) → ⊥)
canonical_without_causes law = (
  (law (built hexlower_fields) (is_specified hexlower_fields refl)).0 refl,
  λ canonical. false≢true
      ((law (built base64_fields) (is_specified base64_fields refl)).1 canonical),
)

-- which six are canonical
canonical_six : SixAreCanonical
    → IsCanonical (built hexlower_fields) × IsCanonical (built hexupper_fields)
    × IsCanonical (built base32_nopad_fields) × IsCanonical (built base32hex_nopad_fields)
    × IsCanonical (built base64_nopad_fields) × IsCanonical (built base64url_nopad_fields)
canonical_six law = (
  law.0 0 hexlower_fields (lit< tt) (built hexlower_fields) refl,
  law.0 1 hexlower_fields (lit< tt) (built hexupper_fields) refl,
  law.0 2 hexlower_fields (lit< tt) (built base32_nopad_fields) refl,
  law.0 3 hexlower_fields (lit< tt) (built base32hex_nopad_fields) refl,
  law.0 4 hexlower_fields (lit< tt) (built base64_nopad_fields) refl,
  law.0 5 hexlower_fields (lit< tt) (built base64url_nopad_fields) refl,
)

-- and which twelve are not
abbrev Second : Base → Type 0
Second base = IsCanonical base → ⊥

canonical_others : SixAreCanonical
    → Second (built hexlower_permissive_fields) × Second (built hexupper_permissive_fields)
    × Second (built base32_fields) × Second (built base32_nopad_nocase_fields)
    × Second (built base32_nopad_visual_fields) × Second (built base32hex_fields)
    × Second (built base32_dnssec_fields) × Second (built base32_dnscurve_fields)
    × Second (built base64_fields) × Second (built base64_mime_fields)
    × Second (built base64_mime_permissive_fields) × Second (built base64url_fields)
canonical_others law = (
  law.1 0 hexlower_fields (lit< tt) (built hexlower_permissive_fields) refl,
  law.1 1 hexlower_fields (lit< tt) (built hexupper_permissive_fields) refl,
  law.1 2 hexlower_fields (lit< tt) (built base32_fields) refl,
  law.1 3 hexlower_fields (lit< tt) (built base32_nopad_nocase_fields) refl,
  law.1 4 hexlower_fields (lit< tt) (built base32_nopad_visual_fields) refl,
  law.1 5 hexlower_fields (lit< tt) (built base32hex_fields) refl,
  law.1 6 hexlower_fields (lit< tt) (built base32_dnssec_fields) refl,
  law.1 7 hexlower_fields (lit< tt) (built base32_dnscurve_fields) refl,
  law.1 8 hexlower_fields (lit< tt) (built base64_fields) refl,
  law.1 9 hexlower_fields (lit< tt) (built base64_mime_fields) refl,
  law.1 10 hexlower_fields (lit< tt) (built base64_mime_permissive_fields) refl,
  law.1 11 hexlower_fields (lit< tt) (built base64url_fields) refl,
)

-- which six of the sixteen are ordered
ordered_six : SixAreOrdered
    → IsOrdered (built hexlower_fields) × IsOrdered (built hexlower_permissive_fields)
    × IsOrdered (built hexupper_fields) × IsOrdered (built hexupper_permissive_fields)
    × IsOrdered (built base32hex_nopad_fields) × IsOrdered (built base32_dnssec_fields)
ordered_six law = (
  law.0 0 hexlower_fields (lit< tt) (built hexlower_fields) refl,
  law.0 1 hexlower_fields (lit< tt) (built hexlower_permissive_fields) refl,
  law.0 2 hexlower_fields (lit< tt) (built hexupper_fields) refl,
  law.0 3 hexlower_fields (lit< tt) (built hexupper_permissive_fields) refl,
  law.0 4 hexlower_fields (lit< tt) (built base32hex_nopad_fields) refl,
  law.0 5 hexlower_fields (lit< tt) (built base32_dnssec_fields) refl,
)

-- and which ten are not
abbrev Unordered : Base → Type 0
Unordered base = IsOrdered base → ⊥

ordered_others : SixAreOrdered
    → Unordered (built base32_fields) × Unordered (built base32_nopad_fields)
    × Unordered (built base32_nopad_nocase_fields) × Unordered (built base32_nopad_visual_fields)
    × Unordered (built base32hex_fields) × Unordered (built base32_dnscurve_fields)
    × Unordered (built base64_fields) × Unordered (built base64_nopad_fields)
    × Unordered (built base64url_fields) × Unordered (built base64url_nopad_fields)
ordered_others law = (
  law.1 0 hexlower_fields (lit< tt) (built base32_fields) refl,
  law.1 1 hexlower_fields (lit< tt) (built base32_nopad_fields) refl,
  law.1 2 hexlower_fields (lit< tt) (built base32_nopad_nocase_fields) refl,
  law.1 3 hexlower_fields (lit< tt) (built base32_nopad_visual_fields) refl,
  law.1 4 hexlower_fields (lit< tt) (built base32hex_fields) refl,
  law.1 5 hexlower_fields (lit< tt) (built base32_dnscurve_fields) refl,
  law.1 6 hexlower_fields (lit< tt) (built base64_fields) refl,
  law.1 7 hexlower_fields (lit< tt) (built base64_nopad_fields) refl,
  law.1 8 hexlower_fields (lit< tt) (built base64url_fields) refl,
  law.1 9 hexlower_fields (lit< tt) (built base64url_nopad_fields) refl,
)

-- an ordered base keeps the order, the converse of `order_needs_significant_first`
ordered_keeps : Order → IsOrdered (built hexlower_fields) → KeepsOrder (built hexlower_fields)
ordered_keeps law =
    (law (built hexlower_fields) (is_specified hexlower_fields refl) refl).0

-- hexadecimal `J` and `k`: they compare as `4a` and `6b`
data_compared : OrderOfData → IsOrdered (built hexlower_fields)
    → CompareAlike (codes "J") (codes "k") (codes "4a") (codes "6b")
data_compared law ordered =
    law (built hexlower_fields) (is_specified hexlower_fields refl) refl ordered (codes "J")
    (codes "k") (All-from_recursion (λ byte. byte < 256) (codes "J") (lit< tt, tt))
    (All-from_recursion (λ byte. byte < 256) (codes "k") (lit< tt, tt))

-- and so does what `4a` and `6b` mean
texts_compared : OrderOfTexts → IsCanonical (built hexlower_fields)
    → IsOrdered (built hexlower_fields) → (bytes others : List ℕ)
    → Means (built hexlower_fields) (codes "4a") bytes
    → Means (built hexlower_fields) (codes "6b") others
    → CompareAlike bytes others (codes "4a") (codes "6b")
texts_compared law canonical ordered =
    law (built hexlower_fields) (is_specified hexlower_fields refl) canonical ordered (codes "4a")
    (codes "6b")
