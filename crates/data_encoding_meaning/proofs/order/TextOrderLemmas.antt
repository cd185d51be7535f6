-- An ordered base keeps the order of data.
use Rattle.std.proofs.Common.{◌≡◌, ℕ, zero, suc, ◌-◌, ◌%◌, ◌^◌, ◌<◌, ◌≤◌, List, [], ◌∷◌, ◌++◌, length, take, drop, replicate, All, Option, Some, None, refl, ap, ◌∙◌, arith, inl, inr, ⊎_elim, take-append-drop, length-take-le}
use Rattle.std.proofs.Math.Nat.{mod-eq_of_lt, mod_self}
use Rattle.std.proofs.lemmas.Bool.{cases_lt}
use Rattle.std.proofs.lemmas.List.{append-nil, drop_all, length-drop}
use Rattle.std.proofs.lemmas.List.Elements.{recursion_from_All}
use Rattle.data_encoding_meaning.specs.declared.encoding.BitOrder.{BitOrder}
use Rattle.data_encoding_meaning.specs.declared.encoding.BitOrder.TheVariants.{MostSignificantFirst}
use Rattle.data_encoding_meaning.specs.text.Base.{Base, symbol, group_symbols}
use Rattle.data_encoding_meaning.specs.text.Bits.{bits_of, number_of, bits_of_bytes, missing, runs}
use Rattle.data_encoding_meaning.specs.laws.Order.{IsBefore, IsOrdered, KeepsOrder}
use Rattle.data_encoding_meaning.specs.text.Text.{filled_with, with_padding}
use Rattle.data_encoding_meaning.proofs.digits.BitLemmas.{AreBits, AreBits-bits_of, AreBits-drop, AreBits-flat_map}
use Rattle.data_encoding_meaning.proofs.lists.RunLemmas.{runs-append, runs-nil, runs-short}
use Rattle.data_encoding_meaning.proofs.order.FrontLemmas.{front, front_number, front-long, front-short, front_number-below, length-front, front-compared, before-bytes, IsBeforeBy, IsRestBefore}
use Rattle.data_encoding_meaning.proofs.judgement.RuleLemmas.{IsRuled}
use Rattle.data_encoding_meaning.proofs.text.PlainTextLemmas.{filled-join, filled-whole, missing-some, text_by}

module _ (base : Base) (width : ℕ) (order : BitOrder) (some : 0 < width) where
  abbrev shown_run : List ℕ → ℕ
  shown_run run = symbol base (number_of order run)

  text_by-nil : text_by base width order [] ≡ []
  text_by-nil = rw (filled-whole 0 width [] (mod-eq_of_lt some), runs-nil {X = ℕ} width some)

  -- the first symbol, and the text of the bits after its own
  pub text_by-first : (bits : List ℕ) → 0 < length bits
      → text_by base width order bits
      ≡ shown_run (front width bits) ∷ text_by base width order (drop width bits)
  text_by-first bits more =
      ⊎_elim
      (λ (short : length bits < width).
      let small : length bits % width ≡ length bits = mod-eq_of_lt short in
      let lack : missing width (length bits) ≡ width - length bits =
      missing-some width (length bits) some (omega (arith, small, more))
      ∙ ap (λ r. width - r) small in
      let all : filled_with 0 width bits ≡ front width bits =
      rw (lack, front-short width bits (omega (arith, short))) in
      let one : runs width (front width bits) ≡ front width bits ∷ [] =
      runs-short width (front width bits) (omega (arith, length-front width bits, some))
      (omega (arith, length-front width bits)) in
      let none : drop width bits ≡ [] = drop_all width bits (omega (arith, short)) in
      rw (none, text_by-nil, all, one))
      (λ (long : width ≤ length bits).
      let first = take width bits in
      let rest = drop width bits in
      let len : length first ≡ width = length-take-le width bits long in
      let parts : filled_with 0 width bits ≡ first ++ filled_with 0 width rest =
      rw take-append-drop
      at (filled-join 0 width first rest some (rw len (mod_self width))) in
      rw (parts, runs-append width first (filled_with 0 width rest) some len)
      (rw (front-long width bits long)))
      (cases_lt (length bits) width)

-- Symbols of some bits each, that ascend; and what may follow a text, which comes before each
-- symbol.
module _ (base : Base) (width : ℕ) (some : 0 < width) (few : width < 8)
    (ascends : (a b : ℕ) → a < b → b < 2 ^ width → symbol base a < symbol base b)
    (end : List ℕ)
    (low : (value : ℕ) → value < 2 ^ width → (rest : List ℕ)
    → IsBefore end (symbol base value ∷ rest)) where
  abbrev shown : List ℕ → List ℕ
  shown bits = text_by base width MostSignificantFirst bits

  before-some : (xs ys other : List ℕ) → AreBits ys → xs ≡ [] → 0 < length ys
      → IsBefore (shown xs ++ end) (shown ys ++ other)
  before-some xs ys other are none more =
      rw (none, text_by-nil base width MostSignificantFirst some)
      (rw (text_by-first base width MostSignificantFirst some ys more)
      (low (front_number width ys) (front_number-below width ys are)
      (shown (drop width ys) ++ other)))

  -- n is at least the length
  before-text : (n : ℕ) (xs ys other : List ℕ) → length xs ≤ n → AreBits xs → AreBits ys
      → IsBeforeBy 8 xs ys → IsBefore (shown xs ++ end) (shown ys ++ other)
  before-text n [] ys other bound h k before =
      before-some [] ys other k refl (omega (arith, before))
  before-text zero (x ∷ xs) ys other bound h k before = absurd (omega (arith, bound))
  before-text (suc n) (x ∷ xs) [] other bound h k before = absurd before
  before-text (suc n) (x ∷ xs) (y ∷ ys) other bound h k before =
      let one = x ∷ xs in
      let two = y ∷ ys in
      let len : length (drop width one) ≤ n =
      omega (arith, length-drop width one, some, bound) in
      rw (text_by-first base width MostSignificantFirst some one (omega arith))
      (rw (text_by-first base width MostSignificantFirst some two (omega arith))
      (⊎_elim
      (λ (less : front_number width one < front_number width two).
      inl (ascends (front_number width one) (front_number width two) less
      (front_number-below width two k)))
      (λ (same : (front_number width one ≡ front_number width two)
      × IsRestBefore 8 width one two).
      inr (
        ap (symbol base) same.0,
        ⊎_elim
            (λ (ends : (drop width one ≡ []) × (0 < length (drop width two))).
            before-some (drop width one) (drop width two) other (AreBits-drop width two k) ends.0
            ends.1)
            (λ (rest : IsBeforeBy 8 (drop width one) (drop width two)).
            before-text n (drop width one) (drop width two) other len (AreBits-drop width one h)
            (AreBits-drop width two k) rest)
            same.1,
      ))
      (front-compared 8 width one two few h k before)))

  pub before-texts : (bytes others other : List ℕ) → All (λ byte. byte < 256) others
      → IsBefore bytes others
      → IsBefore (shown (bits_of_bytes MostSignificantFirst bytes) ++ end)
      (shown (bits_of_bytes MostSignificantFirst others) ++ other)
  before-texts bytes others other all before =
      let are : (l : List ℕ) → AreBits (bits_of_bytes MostSignificantFirst l) =
      λ l. AreBits-flat_map (bits_of MostSignificantFirst 8) l
      (λ byte. AreBits-bits_of MostSignificantFirst 8 byte) in
      let bits = bits_of_bytes MostSignificantFirst bytes in
      before-text (length bits) bits (bits_of_bytes MostSignificantFirst others) other
      (omega arith) (are bytes) (are others)
      (before-bytes bytes others (recursion_from_All (λ byte. byte < 256) others all) before)

before-padding : (base : Base) (width n character : ℕ)
    → ((value : ℕ) → value < 2 ^ width → character < symbol base value)
    → (value : ℕ) → value < 2 ^ width → (rest : List ℕ)
    → IsBefore (replicate n character) (symbol base value ∷ rest)
before-padding base width zero character low value h rest = tt
before-padding base width (suc n) character low value h rest = inl (low value h)

module _ (base : Base) where
  abbrev size : ℕ
  size = group_symbols base.width

  abbrev text_in : BitOrder → List ℕ → List ℕ
  text_in order bytes = text_by base base.width order (bits_of_bytes order bytes)

  pub KeepsOrder-ordered : IsRuled base → base.wrapping ≡ None → IsOrdered base → KeepsOrder base
  KeepsOrder-ordered ruled unwrapped ordered bytes others all all_others before =
      rw (unwrapped, ordered.most_significant_first) (by_padding base.padding refl) where
        ascends : (a b : ℕ) → a < b → b < 2 ^ base.width → symbol base a < symbol base b
        ascends a b h k = ordered.ascending a b 0 h (omega (arith, k, ruled.count))

        texts : (end : List ℕ) → ((value : ℕ) → value < 2 ^ base.width → (rest : List ℕ)
            → IsBefore end (symbol base value ∷ rest)) → (other : List ℕ)
            → IsBefore (text_in MostSignificantFirst bytes ++ end)
            (text_in MostSignificantFirst others ++ other)
        texts end low other =
            before-texts base base.width ruled.is_width.some
            (omega (arith, ruled.is_width.few)) ascends end low bytes others other all_others
            before

        by_padding : (o : Option ℕ) → base.padding ≡ o
            → IsBefore (with_padding o size (text_in MostSignificantFirst bytes))
            (with_padding o size (text_in MostSignificantFirst others))
        by_padding None none = simp append-nil at (texts [] (λ value h rest. tt) [])
        by_padding (Some character) is =
            let low : (value : ℕ) → value < 2 ^ base.width → character < symbol base value =
            λ value h. ordered.padding_first character is value 0
            (omega (arith, h, ruled.count)) in
            let end : List ℕ → List ℕ =
            λ l. replicate (missing size (length (text_in MostSignificantFirst l))) character in
            texts (end bytes)
            (before-padding base base.width
            (missing size (length (text_in MostSignificantFirst bytes))) character low)
            (end others)
