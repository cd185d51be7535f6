-- A trailing bit that is not checked gives a second text.
use Rattle.std.proofs.Common.{◌≡◌, ℕ, ◌+◌, ◌/◌, ◌%◌, ◌^◌, ◌<◌, ◌≤◌, false, List, [], ◌∷◌, ◌++◌, length, map, drop, replicate, Option, Some, None, refl, sym, ap, ◌∙◌, arith, length-append, unwrap_or, flat_map}
use Rattle.std.proofs.lemmas.Bool.{false≢true}
use Rattle.std.proofs.lemmas.Bool.Decides.{nat_tests}
use Rattle.std.proofs.lemmas.List.{length-replicate, map-append}
use Rattle.data_encoding_meaning.specs.declared.encoding.BitOrder.{BitOrder}
use Rattle.data_encoding_meaning.specs.declared.encoding.BitOrder.TheVariants.{MostSignificantFirst, LeastSignificantFirst}
use Rattle.data_encoding_meaning.specs.declared.encoding.Character.TheVariants.{Symbol}
use Rattle.data_encoding_meaning.specs.text.Base.{Base, IsWidth, meaning, symbol, group_symbols, value_of}
use Rattle.data_encoding_meaning.specs.text.Bits.{bits_of, bits_of_bytes}
use Rattle.data_encoding_meaning.specs.laws.Canonical.{AreTwoTexts, last_bit, trailing_text}
use Rattle.data_encoding_meaning.specs.text.Grammar.{PlainMeans}
use Rattle.data_encoding_meaning.specs.text.Text.{padded_text, with_padding}
use Rattle.data_encoding_meaning.proofs.canonicity.ConcatenatedTextLemmas.{partly, zero_byte}
use Rattle.data_encoding_meaning.proofs.canonicity.OneGroupLemmas.{Means-group, Means-padded_text, length-group, length-zero}
use Rattle.data_encoding_meaning.proofs.judgement.RuleLemmas.{IsRuled}
use Rattle.data_encoding_meaning.proofs.lists.ListLemmas.{parts_same}
use Rattle.data_encoding_meaning.proofs.lists.RepeatLemmas.{map-replicate}
use Rattle.data_encoding_meaning.proofs.text.SymbolMeaningLemmas.{own_meaning}
use Rattle.data_encoding_meaning.proofs.text.PlainTextLemmas.{text_by}

-- the values of the symbols of a byte 0, the last of which is any
abbrev values_with : ℕ → ℕ → List ℕ
values_with width last = replicate (8 / width) 0 ++ last ∷ []

abbrev trailing_bits : BitOrder → ℕ → List ℕ
trailing_bits order width =
    drop 8 (flat_map (bits_of order width) (values_with width (last_bit order width)))

-- What the last bit of the last symbol is, if eight bits are not whole symbols.
record TrailsAt (order : BitOrder) (width : ℕ) : Type 0 where
  short : length (trailing_bits order width) < width
  below : last_bit order width < 2 ^ width
  not_zero : 0 ≡ last_bit order width → ⊥
  few : 8 / width + 1 ≤ group_symbols width

trails_at : (order : BitOrder) (width : ℕ) → IsWidth width → (8 % width ≡ 0 → ⊥)
    → TrailsAt order width
trails_at MostSignificantFirst =
    partly (TrailsAt MostSignificantFirst) (omega arith) (omega arith) (omega arith)
trails_at LeastSignificantFirst =
    partly (TrailsAt LeastSignificantFirst) (omega arith) (omega arith) (omega arith)

-- symbols of the value 0, and another
abbrev symbols_with : ℕ → ℕ → ℕ → List ℕ
symbols_with count first last = replicate count first ++ last ∷ []

-- the bits of these values, and the text of a byte 0
abbrev HasZeroText : Base → BitOrder → ℕ → Type 0
HasZeroText base order width =
    (flat_map (bits_of order width) (values_with width (last_bit order width))
    ≡ bits_of_bytes order (0 ∷ []) ++ trailing_bits order width)
    × (text_by base width order (bits_of_bytes order (0 ∷ []))
    ≡ symbols_with (8 / width) (symbol base 0) (symbol base 0))

zero_text : (base : Base) (order : BitOrder) (width : ℕ) → IsWidth width
    → (8 % width ≡ 0 → ⊥) → HasZeroText base order width
zero_text base MostSignificantFirst =
    partly (HasZeroText base MostSignificantFirst) (refl, refl) (refl, refl) (refl, refl)
zero_text base LeastSignificantFirst =
    partly (HasZeroText base LeastSignificantFirst) (refl, refl) (refl, refl) (refl, refl)

-- texts of one length are equal if they are equal with padding
unpadded : (o : Option ℕ) (size : ℕ) (xs ys : List ℕ) → length xs ≡ length ys
    → with_padding o size xs ≡ with_padding o size ys → xs ≡ ys
unpadded None size xs ys len same = same
unpadded (Some character) size xs ys len same = (parts_same xs _ ys _ same len).0

module _ (base : Base) (ruled : IsRuled base) (unchecked : base.checks_trailing_bits ≡ false) where
  not_whole : 8 % base.width ≡ 0 → ⊥
  not_whole whole = let checked = ruled.checked in grind (arith, nat_tests, checked)

  facts : TrailsAt base.order base.width
  facts = trails_at base.order base.width ruled.is_width not_whole

  computed : HasZeroText base base.order base.width
  computed = zero_text base base.order base.width ruled.is_width not_whole

  abbrev last : ℕ
  last = last_bit base.order base.width

  abbrev count : ℕ
  count = 8 / base.width

  abbrev text : List ℕ
  text = symbols_with count (symbol base 0) (symbol base last)

  zero_meaning : meaning base (symbol base 0) ≡ Symbol 0
  zero_meaning = own_meaning base ruled 0 (omega (arith, facts.below))

  last_meaning : meaning base (symbol base last) ≡ Symbol last
  last_meaning = own_meaning base ruled last facts.below

  text_len : length text ≡ count + 1
  text_len = simp (length-append, length-replicate)

  means : PlainMeans base (map (meaning base) text) (0 ∷ [])
  means = record {
    values = values_with base.width last;
    rest = trailing_bits base.order base.width;
    are_symbols =
        map-append (meaning base) (replicate count (symbol base 0)) (symbol base last ∷ [])
        ∙ (λ i. map-replicate (meaning base) (Symbol 0) count (symbol base 0) zero_meaning i
        ++ last_meaning i ∷ [])
        ∙ sym (map-append (λ v. Symbol v) (replicate count 0) (last ∷ [])
        ∙ ap (λ ms. ms ++ Symbol last ∷ [])
        (map-replicate (λ v. Symbol v) (Symbol 0) count 0 refl));
    same_bits = computed.0;
    rest_is_short = facts.short;
    rest_is_zero = λ checks. absurd (false≢true (sym unchecked ∙ checks));
    are_bytes = zero_byte;
  }

  differ : padded_text base (0 ∷ []) ≡ trailing_text base → ⊥
  differ same =
      let zeros = replicate count (symbol base 0) in
      let texts = unpadded base.padding (group_symbols base.width)
      (zeros ++ symbol base 0 ∷ []) text (simp length-append)
      (ap (with_padding base.padding (group_symbols base.width)) (sym computed.1) ∙ same) in
      let ends = parts_same zeros (symbol base 0 ∷ []) zeros (symbol base last ∷ []) texts refl in
      let symbols : symbol base 0 ≡ symbol base last = cc in
      let meanings : Symbol 0 ≡ Symbol last =
      sym zero_meaning ∙ ap (meaning base) symbols ∙ last_meaning in
      facts.not_zero (ap (λ m. unwrap_or (value_of m) 0) meanings)

  some : 0 < length text
  some = omega (arith, text_len)

  few : length text ≤ group_symbols base.width
  few = omega (arith, text_len, facts.few)

  pub trailing-second : AreTwoTexts base (padded_text base (0 ∷ [])) (trailing_text base) (0 ∷ [])
  trailing-second = record {
    differ = differ;
    one_is_short = omega (arith, length-zero base ruled);
    other_is_short = omega (arith, length-group base ruled base.padding text some few);
    one_means = Means-padded_text base ruled (0 ∷ []) zero_byte;
    other_means = Means-group base ruled text (0 ∷ []) means some few;
  }
