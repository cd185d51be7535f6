-- Worked rows for the eighteen, and for texts compared as their data.
use Rattle.std.proofs.Common.{◌≡◌, ℕ, true, false, List, [], ◌∷◌, map, ◌++◌, codes, replicate, Some, is_some, get_or, refl, ap, arith, inl, lit<, ⊎_elim}
use Rattle.data_encoding_meaning.specs.text.Base.{Base}
use Rattle.data_encoding_meaning.specs.laws.Canonical.{has_one_text}
use Rattle.data_encoding_meaning.specs.laws.Compared.{CompareAlike}
use Rattle.data_encoding_meaning.specs.laws.Eighteen.{Builds, canonical_fields, second_text_fields, ordered_fields, unordered_fields}
use Rattle.data_encoding_meaning.specs.laws.Order.{BreaksOrder, IsBefore, IsBroken, KeepsOrder}
use Rattle.data_encoding_meaning.specs.specification.Predefined.{base32_dnscurve_fields, base64_nopad_fields, hexlower_fields, padded_fields}
use Rattle.data_encoding_meaning.specs.text.Text.{text_of}
use Rattle.data_encoding_meaning.proofs.judgement.BuiltLemmas.{Builds-by}
use Rattle.data_encoding_meaning.proofs.vectors.Examples.{Has, built, by, octal_fields}

-- Six of the eighteen have no cause of a second text, and twelve have one. Sixteen have no lines.
six_have_one_text :
    (map (by has_one_text) canonical_fields ≡ replicate 6 (Some true))
    × (map (by has_one_text) second_text_fields ≡ replicate 12 (Some false))
    × (map (by (λ base. is_some base.wrapping)) (ordered_fields ++ unordered_fields)
    ≡ replicate 16 (Some false))
six_have_one_text = (refl, refl, refl)

width_built : Builds (λ base. base.width ≡ 4) hexlower_fields
width_built = Builds-by (λ base. base.width ≡ 4) hexlower_fields refl

-- `J` is before `k`, and `4a` before `6b`
letters_compared :
    Has hexlower_fields
    (λ base. CompareAlike (codes "J") (codes "k") (text_of base (codes "J"))
    (text_of base (codes "k")))
letters_compared = record {
  order = (λ before. inl (lit< tt), λ before. inl (lit< tt));
  equality = (
    (λ same. let first : 74 ≡ 107 = ap (λ l. get_or l 0 0) same in absurd (omega (arith, first))),
    (λ same. let first : 52 ≡ 54 = ap (λ l. get_or l 0 0) same in absurd (omega (arith, first))),
  );
}

-- texts are ordered as their data, and data as their texts
compare_alike_both_ways : (one other first second : List ℕ) → CompareAlike one other first second
    → (IsBefore first second → IsBefore one other) × (first ≡ second → one ≡ other)
    × (IsBefore one other → IsBefore first second) × (one ≡ other → first ≡ second)
compare_alike_both_ways one other first second alike =
    (alike.order.1, alike.equality.1, alike.order.0, alike.equality.0)

-- a base with a pair whose order is broken does not keep the order
broken_pair_refutes_order : (base : Base) (bytes others : List ℕ) → BreaksOrder base bytes others
    → KeepsOrder base → ⊥
broken_pair_refutes_order base bytes others broken keeps =
    broken.not_in_order
    (keeps bytes others broken.are_bytes broken.others_are_bytes broken.in_order)

-- what breaks it: the least significant bit first in DNSCurve's, `0` after `z` in base64, and in
-- octal `=` after `0`
orders_broken :
    (IsBroken (built base32_dnscurve_fields) → KeepsOrder (built base32_dnscurve_fields) → ⊥)
    × (IsBroken (built base64_nopad_fields)
    → BreaksOrder (built base64_nopad_fields) (204 ∷ []) (208 ∷ []))
    × (IsBroken (built (padded_fields octal_fields))
    → BreaksOrder (built (padded_fields octal_fields)) (0 ∷ []) (0 ∷ 0 ∷ []))
orders_broken = (
  λ broken keeps. ⊎_elim
      (λ one. broken_pair_refutes_order (built base32_dnscurve_fields) (0 ∷ []) (1 ∷ []) one keeps)
      (λ other. broken_pair_refutes_order (built base32_dnscurve_fields) (1 ∷ []) (32 ∷ []) other
      keeps)
      (broken.least_significant_first refl),
  λ broken. broken.descending refl 51 (lit< tt) (lit< tt),
  λ broken. broken.padding_later 61 refl (lit< tt),
)
