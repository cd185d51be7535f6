-- Worked rows of consequences of the definitions of texts and of specifications.
use Rattle.std.proofs.Common.{◌≡◌, ℕ, ◌<◌, ◌%◌, false, List, [], ◌∷◌, ◌++◌, ◌∙◌, ◌≤◌, length, map, flat_map, replicate, codes, All, Some, Ok, refl, sym, ap, arith, lit<, ⊎_elim}
use Rattle.std.proofs.lemmas.Bool.{false≢true}
use Rattle.std.proofs.lemmas.List.Elements.{recursion_from_All}
use Rattle.data_encoding_meaning.specs.declared.encoding.BitOrder.TheVariants.{MostSignificantFirst}
use Rattle.data_encoding_meaning.specs.declared.encoding.Character.{Character}
use Rattle.data_encoding_meaning.specs.declared.encoding.Character.TheVariants.{Padding, Symbol}
use Rattle.data_encoding_meaning.specs.text.Base.{Base, is_padding, meaning}
use Rattle.data_encoding_meaning.specs.text.Bits.{bits_of, bits_of_bytes}
use Rattle.data_encoding_meaning.specs.text.EncodedPieces.{HasEncoded}
use Rattle.data_encoding_meaning.specs.text.Grammar.{GroupMeans, GroupsMean, Means, PlainMeans}
use Rattle.data_encoding_meaning.specs.text.Text.{text_of}
use Rattle.data_encoding_meaning.specs.specification.Fields.{Fields, IsSpecified, base_of}
use Rattle.data_encoding_meaning.specs.specification.Named.{IsNamed, IsNumbered}
use Rattle.data_encoding_meaning.specs.specification.Predefined.{base64_fields, base64_mime_fields, base64_nopad_fields, hexlower_fields, padded_fields}
use Rattle.data_encoding_meaning.specs.laws.Canonical.{AreTwoTexts, IsCanonical}
use Rattle.data_encoding_meaning.specs.laws.Laws.{MayBeFollowed}
use Rattle.data_encoding_meaning.specs.laws.Order.{IsBefore, IsOrdered}
use Rattle.data_encoding_meaning.specs.laws.SameMeaning.{DifferInSymbols, DifferInSymbolsAlone}
use Rattle.data_encoding_meaning.proofs.vectors.Examples.{built, octal_fields, reversed, single_fields}

abbrev padded : Base
padded = built base64_fields

abbrev plain : Base
plain = built base64_nopad_fields

-- symbols of base64: six bits each, the most significant first, and zeros after the last byte
symbols_mean : (characters : List Character) (bytes : List ℕ) → PlainMeans plain characters bytes
    → (values rest : List ℕ) × (characters ≡ map (λ value. Symbol value) values)
    × (flat_map (bits_of MostSignificantFirst 6) values
    ≡ bits_of_bytes MostSignificantFirst bytes ++ rest)
    × (length rest < 6) × (rest ≡ replicate (length rest) 0) × All (λ byte. byte < 256) bytes
symbols_mean characters bytes means = (
  means.values,
  means.rest,
  means.are_symbols,
  means.same_bits,
  means.rest_is_short,
  means.rest_is_zero refl,
  means.are_bytes,
)

-- a group of base64 has four characters, of which some are symbols and the others padding; without
-- padding it has none
group_means : (group : List Character) (bytes : List ℕ) → GroupMeans padded group bytes
    → (symbols : List Character) × (padding : ℕ) × (group ≡ symbols ++ replicate padding Padding)
    × (length group ≡ 4) × (0 < length symbols) × PlainMeans padded symbols bytes
group_means group bytes means =
    (means.symbols, means.padding, means.is_group, means.is_whole refl, means.is_begun, means.means)

plain_group_means : (group : List Character) (bytes : List ℕ)
    → (means : GroupMeans plain group bytes) → means.padding ≡ 0
plain_group_means group bytes means = means.is_plain refl

-- No group means no bytes. Two groups mean the bytes of both, in order.
groups_mean_pieces : (bytes : List ℕ) → (GroupsMean padded [] bytes → bytes ≡ [])
    × ((one other : List Character) → GroupsMean padded (one ∷ other ∷ []) bytes
    → (piece more : List ℕ) × (bytes ≡ piece ++ more) × GroupMeans padded one piece
    × GroupsMean padded (other ∷ []) more)
groups_mean_pieces bytes =
    (λ means. means, λ one other means. (means.0, means.1, means.2, means.3, means.5))

-- where texts end with padding, no group follows one that has some
none_follows : (bytes : List ℕ) (other : List Character)
    → GroupsMean (built single_fields) ((Symbol 0 ∷ Padding ∷ []) ∷ other ∷ []) bytes → ⊥
none_follows bytes other means = let none = means.4 refl in cc

-- what a text of one group means
text_means : (bytes : List ℕ) → Means padded (codes "SGVs") bytes
    → (piece more : List ℕ) × (bytes ≡ piece ++ more)
    × GroupMeans padded (map (meaning padded) (codes "SGVs")) piece × (more ≡ [])
text_means bytes means = (means.0, means.1, means.2, means.3, means.5)

-- two short texts of the same data refute that a base is canonical
second_text_refutes_canonical : (base : Base) (one other bytes : List ℕ)
    → AreTwoTexts base one other bytes
    → IsCanonical base → ⊥
second_text_refutes_canonical base one other bytes two canonical =
    let short : length one ≤ 16 = two.one_is_short in
    let few : length other ≤ 16 = two.other_is_short in
    two.differ (canonical one other bytes (omega arith) (omega arith) two.one_means two.other_means)

-- no text may follow `A=` where texts end with padding, nor `A` without padding
abbrev HasNone : List ℕ → Type 0
HasNone text = All (λ byte. is_padding (meaning (built single_fields) byte) ≡ false) text

padding_there : HasNone (codes "A=") → ⊥
padding_there none =
    let each = recursion_from_All
    (λ byte. is_padding (meaning (built single_fields) byte) ≡ false) (codes "A=") none in
    false≢true (sym each.1.0)

none_may_follow :
    (MayBeFollowed (built single_fields) (codes "A=") → ⊥) × (MayBeFollowed plain (codes "A") → ⊥)
none_may_follow = (
  λ may. ⊎_elim (λ padding. ⊎_elim (λ joins. false≢true joins) padding_there padding.1)
      (λ (whole : 2 ≡ 0). omega (arith, whole)) may,
  λ may. ⊎_elim (λ padding. false≢true padding.0)
      (λ (whole : 2 ≡ 0). omega (arith, whole)) may,
)

-- `b` is not before `a`, nor `ab` before `aa`, and no list is before the empty one
not_before : (IsBefore (codes "b") (codes "a") → ⊥) × ((xs : List ℕ) → IsBefore xs [] → ⊥)
not_before = (
  λ before. ⊎_elim (λ (less : 98 < 97). omega (arith, less))
      (λ same. let equal : 98 ≡ 97 = same.0 in omega (arith, equal)) before,
  λ xs before. before,
)

not_before_by_second : IsBefore (codes "ab") (codes "aa") → ⊥
not_before_by_second before =
    ⊎_elim (λ (less : 97 < 97). omega (arith, less)) (λ same. not_before.0 same.1) before

-- the least significant bit first, `z` before `0`, and `=` after `0` are not ordered
not_ordered :
    (IsOrdered (built (reversed hexlower_fields)) → ⊥) × (IsOrdered plain → ⊥)
    × (IsOrdered (built (padded_fields octal_fields)) → ⊥)
not_ordered = (
  λ ordered. let first = ordered.most_significant_first in cc,
  λ ordered. let less : 122 < 48 = ordered.ascending 51 52 0 (lit< tt) (lit< tt) in
      omega (arith, less),
  λ ordered. let less : 61 < 48 = ordered.padding_first 61 refl 0 0 (lit< tt) in
      omega (arith, less),
)

-- base64 differs from these in more than symbols: in its width, bit order, padding and lines
differ_in_more :
    (DifferInSymbols padded (built hexlower_fields) → ⊥)
    × (DifferInSymbols padded (built (reversed base64_fields)) → ⊥)
    × (DifferInSymbols padded plain → ⊥) × (DifferInSymbols padded (built base64_mime_fields) → ⊥)
    × (DifferInSymbolsAlone padded plain → ⊥)
differ_in_more = (
  λ differ. let six : 6 ≡ 4 = differ.width in omega (arith, six),
  λ differ. let same = differ.order in cc,
  λ differ. false≢true (sym differ.padded),
  λ differ. let same = differ.wrapping in cc,
  λ differ. false≢true (sym differ.in_symbols.padded),
)

some_same : (one other : Fields) → Some one ≡ Some other → one ≡ other
some_same one other same = cc

-- a base that is specified by the fields of HEXLOWER is built from them
specified_base_is_built : (base : Base) → (is : IsSpecified base) → is.fields ≡ hexlower_fields
    → base_of hexlower_fields ≡ Ok base
specified_base_is_built base is same = ap base_of (sym same) ∙ is.is_built

-- The base of the name `BASE64`, or of the number 12, is built from the fields of base64. 18 has
-- no base.
named_base_is_built : (base : Base)
    → (IsNamed (codes "BASE64") base → base_of base64_fields ≡ Ok base)
    × (IsNumbered 12 base → base_of base64_fields ≡ Ok base) × (IsNumbered 18 base → ⊥)
named_base_is_built base = (
  λ is. ap base_of (some_same _ _ is.is_known) ∙ is.is_built,
  λ is. ap base_of (some_same _ _ is.is_known) ∙ is.is_built,
  λ is. let none = is.is_known in cc,
)

-- if `lo` of `hello` is held, whole groups were encoded, and their text was appended
whole_groups_encoded : (before text : List ℕ)
    → HasEncoded padded before (codes "hello") text (codes "lo")
    → (encoded : List ℕ) × (codes "hello" ≡ encoded ++ codes "lo") × (length encoded % 3 ≡ 0)
    × (text ≡ before ++ text_of padded encoded)
whole_groups_encoded before text has = (has.encoded, has.are_bytes, has.is_aligned, has.is_written)
