-- The own form of a text follows from what its bytes mean.
use Rattle.std.proofs.Common.{◌≡◌, ℕ, ◌+◌, ◌-◌, ◌%◌, ◌^◌, ◌<◌, ◌≤◌, true, List, [], ◌∷◌, ◌++◌, length, map, replicate, Option, Some, None, unwrap_or, refl, sym, ap, ◌∙◌, subst, arith, ⊎_elim, length-append, zero, suc, flat_map}
use Rattle.std.proofs.lemmas.Bool.{cases_lt}
use Rattle.std.proofs.lemmas.Bool.Decides.{nat_tests}
use Rattle.std.proofs.lemmas.Nat.{mod_below}
use Rattle.std.proofs.lemmas.List.{get_or_past}
use Rattle.std.proofs.Math.Nat.{add-mod, mod-eq-sub-mod, mod-eq_of_lt, mul_comm, mul-mod_left}
use Rattle.std.specs.List.{AllByRecursion}
use Rattle.data_encoding_meaning.specs.declared.encoding.BitOrder.{BitOrder}
use Rattle.data_encoding_meaning.specs.declared.encoding.Character.{Character}
use Rattle.data_encoding_meaning.specs.declared.encoding.Character.TheVariants.{Symbol, Padding, Ignored, Invalid}
use Rattle.data_encoding_meaning.specs.text.Base.{Base, IsWidth, meaning, symbol}
use Rattle.data_encoding_meaning.specs.text.Bits.{bits_of, bits_of_bytes, missing, number_of, runs}
use Rattle.data_encoding_meaning.specs.text.Grammar.{PlainMeans}
use Rattle.data_encoding_meaning.specs.specification.Layout.{is_translated, own_character, translated_bytes}
use Rattle.data_encoding_meaning.specs.laws.SameMeaning.{own_form}
use Rattle.data_encoding_meaning.specs.text.Text.{filled_with, plain_text}
use Rattle.data_encoding_meaning.proofs.canonicity.TranslatedLemmas.{not_translated}
use Rattle.data_encoding_meaning.proofs.digits.BitLemmas.{length-bits_of, number_of-bits_of}
use Rattle.data_encoding_meaning.proofs.lists.EachLemmas.{map-twice}
use Rattle.data_encoding_meaning.proofs.grammar.UnpaddedGroupLemmas.{length-bits_of_values}
use Rattle.data_encoding_meaning.proofs.lists.RunLemmas.{runs-flat_map}
use Rattle.data_encoding_meaning.proofs.judgement.RoundTripLemmas.{value-small}
use Rattle.data_encoding_meaning.proofs.judgement.RuleLemmas.{IsRuled, IsRuledPadding}
use Rattle.data_encoding_meaning.proofs.text.PlainTextLemmas.{missing-none}

-- what completes a length to a multiple is what is missing
pub missing-is : (size count rest : ℕ) → rest < size → (count + rest) % size ≡ 0
    → rest ≡ missing size count
missing-is size count rest short whole =
    let left = count % size in
    let few : left < size = mod_below count size (omega (arith, short)) in
    let both : (left + rest) % size ≡ 0 =
    sym (add-mod count rest size ∙ ap (λ n. (left + n) % size) (mod-eq_of_lt short)) ∙ whole in
    let low : left + rest < size → left + rest ≡ 0 = λ h. sym (mod-eq_of_lt h) ∙ both in
    let high : size ≤ left + rest → left + rest - size ≡ 0 =
    λ h. sym (mod-eq_of_lt (omega (arith, few, short, h))) ∙ sym (mod-eq-sub-mod h) ∙ both in
    let none = missing-none size count in
    let some : size - left < size → missing size count ≡ size - left = mod-eq_of_lt in
    grind (arith, few, low, high, none, some)

-- numbers of symbols are what their bits say
numbers_again : (order : BitOrder) (width : ℕ) (values : List ℕ)
    → AllByRecursion (λ value. value < 2 ^ width) values
    → map (number_of order) (map (bits_of order width) values) ≡ values
numbers_again order width [] h = refl
numbers_again order width (value ∷ values) h =
    (λ i. number_of-bits_of order width value h.0 i ∷ numbers_again order width values h.1 i)

module _ (base : Base) (ruled : IsRuled base) where
  width : IsWidth base.width
  width = ruled.is_width

  -- the byte that a byte is translated to, or the byte itself
  abbrev own_byte_of : ℕ → ℕ
  own_byte_of byte = unwrap_or (own_character base (meaning base byte)) byte

  -- a byte that means something is ASCII
  pub ascii : (byte : ℕ) → (meaning base byte ≡ Invalid → ⊥) → byte < 128
  ascii byte h =
      let past = get_or_past base.meanings byte Invalid in grind (arith, past, ruled.long, h)

  -- the value of a symbol is below their number
  pub value_below : (byte value : ℕ) → meaning base byte ≡ Symbol value → value < 2 ^ base.width
  value_below byte value is =
      let low = ascii byte (λ none. cc) in
      omega (arith, value-small base ruled byte value low is, ruled.count)

  -- symbols are translated to the symbols of their values, which are below their number
  symbols_are : (text values : List ℕ)
      → map (meaning base) text ≡ map (λ value. Symbol value) values
      → (own_form base text ≡ map (symbol base) values)
      × AllByRecursion (λ value. value < 2 ^ base.width) values
  symbols_are [] [] h = (refl, tt)
  symbols_are (byte ∷ text) (value ∷ values) h =
      let here : meaning base byte ≡ Symbol value = cc in
      let rest = symbols_are text values cc in
      (rw (here, rest.0), (value_below byte value here, rest.1))
  symbols_are _ _ h = cc

  -- and padding to the padding character
  pub paddings_are : (text : List ℕ) (count character : ℕ) → base.padding ≡ Some character
      → map (meaning base) text ≡ replicate count Padding
      → own_form base text ≡ replicate count character
  paddings_are [] zero character some h = refl
  paddings_are (byte ∷ text) (suc count) character some h =
      let here : meaning base byte ≡ Padding = cc in
      rw (here, some, paddings_are text count character some cc)
  paddings_are _ _ character some h = cc

  -- the own form of symbols that mean bytes is their text, if trailing bits are checked
  pub plain_is : base.checks_trailing_bits ≡ true → (text bytes : List ℕ)
      → PlainMeans base (map (meaning base) text) bytes → own_form base text ≡ plain_text base bytes
  plain_is checks text bytes means =
      let octets = bits_of_bytes base.order bytes in
      let bits = flat_map (bits_of base.order base.width) means.values in
      let show = map (λ run. symbol base (number_of base.order run)) in
      let whole : (length octets + length means.rest) % base.width ≡ 0 =
      ap (λ n. n % base.width)
      (sym (ap length means.same_bits ∙ length-append octets means.rest)
      ∙ length-bits_of_values base.order base.width means.values
      ∙ mul_comm base.width (length means.values))
      ∙ mul-mod_left (length means.values) base.width in
      let lack =
      missing-is base.width (length octets) (length means.rest) means.rest_is_short whole in
      let filled : bits ≡ filled_with 0 base.width octets =
      means.same_bits
      ∙ ap (λ l. octets ++ l) (means.rest_is_zero checks ∙ ap (λ n. replicate n 0) lack) in
      let symbols = symbols_are text means.values means.are_symbols in
      symbols.0
      ∙ ap (map (symbol base)) (sym (numbers_again base.order base.width means.values symbols.1))
      ∙ map-twice (symbol base) (number_of base.order)
      (map (bits_of base.order base.width) means.values)
      ∙ ap show (sym (runs-flat_map base.width (bits_of base.order base.width) means.values
      width.some (length-bits_of base.order base.width)))
      ∙ ap (λ l. show (runs base.width l)) filled

  -- a byte is translated to one that means the same
  own_meaning_of : (byte : ℕ) → meaning base (own_byte_of byte) ≡ meaning base byte
  own_meaning_of byte = by (meaning base byte) refl where
    by_padding : (o : Option ℕ) → base.padding ≡ o → meaning base byte ≡ Padding
        → meaning base (unwrap_or o byte) ≡ Padding
    by_padding None none is = is
    by_padding (Some character) some is =
        (subst (λ o. IsRuledPadding base o) some ruled.padding).1

    by : (m : Character) → meaning base byte ≡ m
        → meaning base (unwrap_or (own_character base m) byte) ≡ m
    by (Symbol value) is =
        (ruled.own value (omega (arith, value_below byte value is, ruled.count))).1
    by Padding is = by_padding base.padding refl is
    by Ignored is = is
    by Invalid is = is

  pub own_form-meaning : (text : List ℕ)
      → map (meaning base) text ≡ map (meaning base) (own_form base text)
  own_form-meaning [] = refl
  own_form-meaning (byte ∷ text) =
      (λ i. sym (own_meaning_of byte) i ∷ own_form-meaning text i)

  -- and to itself if none is translated
  module _ (alone : translated_bytes base ≡ []) where
    own_is : (byte : ℕ) (o : Option ℕ) → (is_translated base byte o ≡ true → ⊥)
        → unwrap_or o byte ≡ byte
    own_is byte o h = grind (arith, nat_tests, h)

    itself : (byte : ℕ) → own_byte_of byte ≡ byte
    itself byte =
        ⊎_elim {C = own_byte_of byte ≡ byte}
        (λ (low : byte < 128).
        own_is byte (own_character base (meaning base byte))
        (not_translated base alone byte low))
        (λ (high : 128 ≤ byte).
        ap (λ m. unwrap_or (own_character base m) byte)
        (get_or_past base.meanings byte Invalid (omega (arith, high, ruled.long))))
        (cases_lt byte 128)

    pub own_form-itself : (text : List ℕ) → own_form base text ≡ text
    own_form-itself [] = refl
    own_form-itself (byte ∷ text) = (λ i. itself byte i ∷ own_form-itself text i)
