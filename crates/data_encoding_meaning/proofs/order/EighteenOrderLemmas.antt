-- Which of the sixteen without lines are ordered.
use Rattle.std.proofs.Common.{◌≡◌, ℕ, ◌+◌, ◌<◌, ◌==◌, nat_lt, Bool, true, false, ◌&&◌, List, [], ◌∷◌, length, get_or, All, AllPairs, Some, is_none, refl, sym, ap, ◌∙◌, arith}
use Rattle.std.proofs.lemmas.Bool.{and_parts, false≢true, lt-ltb, ltb-true}
use Rattle.std.proofs.lemmas.List.Elements.{All-from_recursion}
use Rattle.std.proofs.lemmas.List.Kept.{AllPairs-cons}
use Rattle.std.specs.List.{AllByRecursion, list_all}
use Rattle.data_encoding_meaning.specs.declared.encoding.BitOrder.{BitOrder}
use Rattle.data_encoding_meaning.specs.declared.encoding.BitOrder.TheVariants.{MostSignificantFirst, LeastSignificantFirst}
use Rattle.data_encoding_meaning.specs.text.Base.{Base}
use Rattle.data_encoding_meaning.specs.laws.Eighteen.{Builds, ordered_fields, unordered_fields}
use Rattle.data_encoding_meaning.specs.specification.Fields.{Fields, base_of}
use Rattle.data_encoding_meaning.specs.specification.Layout.{order_flag}
use Rattle.data_encoding_meaning.specs.laws.Order.{IsOrdered}
use Rattle.data_encoding_meaning.specs.specification.Predefined.{base32_fields, base32_nopad_fields, base32_nopad_nocase_fields, base32_nopad_visual_fields, base32hex_fields, base32_dnscurve_fields, base64_fields, base64_nopad_fields, base64url_fields, base64url_nopad_fields}
use Rattle.data_encoding_meaning.proofs.judgement.BuiltLemmas.{IsOfBase, Builds-by, Builds-all}

-- each is below all that follow
abbrev ascends : List ℕ → Bool
ascends [] = true
ascends (x ∷ xs) = list_all (nat_lt x) xs && ascends xs

above : (x : ℕ) (xs : List ℕ) → list_all (nat_lt x) xs ≡ true → AllByRecursion (λ y. x < y) xs
above x [] h = tt
above x (y ∷ xs) h =
    let parts = and_parts (nat_lt x y) (list_all (nat_lt x) xs) h in
    (ltb-true x y parts.0, above x xs parts.1)

pairs-ascend : (xs : List ℕ) → ascends xs ≡ true → AllPairs (λ a b. a < b) xs
pairs-ascend [] h = λ i j d less within. absurd (omega (arith, within))
pairs-ascend (x ∷ xs) h =
    let parts = and_parts (list_all (nat_lt x) xs) (ascends xs) h in
    AllPairs-cons (λ a b. a < b) x xs
    (All-from_recursion (λ y. x < y) xs (above x xs parts.0)) (pairs-ascend xs parts.1)

is_most : (order : BitOrder) → (order_flag order == 8) ≡ true → order ≡ MostSignificantFirst
is_most order h = grind arith

-- what shows that a base is ordered
abbrev is_ascending : Base → Bool
is_ascending base = (order_flag base.order == 8) && ascends base.symbols && is_none base.padding

is_ordered : (base : Base) → is_ascending base ≡ true → IsOrdered base
is_ordered base h =
    let most = order_flag base.order == 8 in
    let both = and_parts (most && ascends base.symbols) (is_none base.padding) h in
    let first = and_parts most (ascends base.symbols) both.0 in
    record {
      most_significant_first = is_most base.order first.0;
      ascending = pairs-ascend base.symbols first.1;
      padding_first = λ character padded. absurd (false≢true (sym (ap is_none padded) ∙ both.1));
    }

pub six-ordered : All (Builds IsOrdered) ordered_fields
six-ordered = Builds-all IsOrdered is_ascending (λ base ruled. is_ordered base) ordered_fields refl

-- a symbol that is not below the next
abbrev Descends : ℕ → Base → Type 0
Descends index base =
    (nat_lt (index + 1) (length base.symbols) ≡ true)
    × (nat_lt (get_or base.symbols index 0) (get_or base.symbols (index + 1) 0) ≡ false)

descends : (index : ℕ) (fields : Fields) → IsOfBase (Descends index) (base_of fields)
    → Builds (λ base. IsOrdered base → ⊥) fields
descends index fields h base is ordered =
    let shown = Builds-by (Descends index) fields h base is in
    let less =
    ordered.ascending index (index + 1) 0 (omega arith) (ltb-true _ _ shown.0) in
    false≢true (sym shown.1 ∙ lt-ltb _ _ less)

-- padding after the first symbol
abbrev PadsLater : Base → Type 0
PadsLater base =
    (base.padding ≡ Some 61) × (nat_lt 0 (length base.symbols) ≡ true)
    × (get_or base.symbols 0 0 ≡ 48)

padded_later : (fields : Fields) → IsOfBase PadsLater (base_of fields)
    → Builds (λ base. IsOrdered base → ⊥) fields
padded_later fields h base is ordered =
    let shown = Builds-by PadsLater fields h base is in
    let below = ordered.padding_first 61 shown.0 0 0 (ltb-true _ _ shown.1) in
    omega (arith, below, shown.2)

least_first : (fields : Fields)
    → IsOfBase (λ base. base.order ≡ LeastSignificantFirst) (base_of fields)
    → Builds (λ base. IsOrdered base → ⊥) fields
least_first fields h base is ordered =
    let least = Builds-by (λ b. b.order ≡ LeastSignificantFirst) fields h base is in
    let most = ordered.most_significant_first in
    cc

pub ten-not : All (Builds (λ base. IsOrdered base → ⊥)) unordered_fields
ten-not =
    let one = descends 25 base32_fields (refl, refl) in
    let two = descends 25 base32_nopad_fields (refl, refl) in
    let three = descends 25 base32_nopad_nocase_fields (refl, refl) in
    let four = descends 25 base32_nopad_visual_fields (refl, refl) in
    let five = padded_later base32hex_fields (refl, refl, refl) in
    let six = least_first base32_dnscurve_fields refl in
    let seven = descends 51 base64_fields (refl, refl) in
    let eight = descends 51 base64_nopad_fields (refl, refl) in
    let nine = descends 51 base64url_fields (refl, refl) in
    let ten = descends 51 base64url_nopad_fields (refl, refl) in
    All-from_recursion (Builds (λ base. IsOrdered base → ⊥)) unordered_fields
    (one, (two, (three, (four, (five, (six, (seven, (eight, (nine, (ten, tt))))))))))
