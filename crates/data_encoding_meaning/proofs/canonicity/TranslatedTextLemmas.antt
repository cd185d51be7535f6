-- A translated byte gives a second text.
use Rattle.std.proofs.Common.{◌≡◌, ℕ, zero, suc, ◌+◌, ◌-◌, ◌*◌, ◌%◌, ◌<◌, ◌≤◌, List, [], ◌∷◌, ◌++◌, length, take, map, replicate, Option, Some, None, is_some, refl, sym, ap, ◌∙◌, subst, arith, append_assoc, flat_map}
use Rattle.std.proofs.Math.Nat.{mod_self}
use Rattle.std.proofs.Math.Seq.{take-append-add}
use Rattle.std.proofs.lemmas.List.{append-nil, length-append, length-replicate, take-replicate}
use Rattle.std.proofs.lemmas.List.Elements.{All-from_recursion}
use Rattle.data_encoding_meaning.specs.declared.encoding.Character.TheVariants.{Symbol, Padding}
use Rattle.data_encoding_meaning.specs.text.Base.{Base, IsWidth, meaning, symbol, group_bytes, group_symbols}
use Rattle.data_encoding_meaning.specs.text.Bits.{bits_of, missing, number_of, runs}
use Rattle.data_encoding_meaning.specs.laws.Canonical.{PaddingIsSecond, SymbolIsSecond, text_ending_in}
use Rattle.data_encoding_meaning.specs.text.Grammar.{Means, PlainMeans}
use Rattle.data_encoding_meaning.specs.text.Text.{padded_text, plain_text, with_padding}
use Rattle.data_encoding_meaning.proofs.canonicity.ConcatenatedTextLemmas.{padded-partly, partly, zero_byte}
use Rattle.data_encoding_meaning.proofs.canonicity.OneGroupLemmas.{Means-fillers, Means-group, Means-padded_text, length-zero, zero_few, zero_some}
use Rattle.data_encoding_meaning.proofs.canonicity.OwnTextLemmas.{value_below}
use Rattle.data_encoding_meaning.proofs.digits.BitLemmas.{AreBits-bits_of, AreBits-flat_map}
use Rattle.data_encoding_meaning.proofs.digits.ValueLemmas.{AreValuesOf, AreValuesOf-runs}
use Rattle.data_encoding_meaning.proofs.digits.WidthLemmas.{group_bits, group_symbols-few, group_symbols-pos}
use Rattle.data_encoding_meaning.proofs.grammar.UnpaddedGroupLemmas.{length-bits_of_values}
use Rattle.data_encoding_meaning.proofs.lists.EachLemmas.{all_joined}
use Rattle.data_encoding_meaning.proofs.lists.ListLemmas.{parts_same}
use Rattle.data_encoding_meaning.proofs.lists.RepeatLemmas.{map-replicate}
use Rattle.data_encoding_meaning.proofs.lists.RunLemmas.{run_count}
use Rattle.data_encoding_meaning.proofs.judgement.RuleLemmas.{IsRuled, IsRuledPadding}
use Rattle.data_encoding_meaning.proofs.text.LastGroupLemmas.{AreFillers-replicate, length-filled_once}
use Rattle.data_encoding_meaning.proofs.text.PlainTextLemmas.{filled-whole, length-plain_text}
use Rattle.data_encoding_meaning.proofs.text.SymbolMeaningLemmas.{PlainMeans-plain_text, own_meaning}

replicate_same : (n a b : ℕ) → 0 < n → replicate n a ≡ replicate n b → a ≡ b
replicate_same zero a b h same = absurd (omega (arith, h))
replicate_same (suc n) a b h same = cc

-- the last of a run is replaced
last_replaced : (a b count : ℕ) (xs : List ℕ)
    → take (length xs + count) (xs ++ replicate (suc count) a) ++ b ∷ []
    ≡ xs ++ (replicate count a ++ b ∷ [])
last_replaced a b count xs =
    rw (take-append-add xs (replicate (suc count) a) count)
    (rw (take-replicate count (suc count) a (omega arith))
    (append_assoc xs (replicate count a) (b ∷ [])))

-- a run does not end in another
last_same : (a b count : ℕ) → replicate (suc count) a ≡ replicate count a ++ b ∷ [] → a ≡ b
last_same a b zero same = cc
last_same a b (suc count) same = last_same a b count cc

-- nothing is appended to a whole group
whole-unpadded : (o : Option ℕ) (size : ℕ) (text : List ℕ) → length text ≡ size
    → with_padding o size text ≡ text
whole-unpadded None size text e = refl
whole-unpadded (Some character) size text e =
    filled-whole character size text (ap (λ n. n % size) e ∙ mod_self size)

-- the text of one byte has padding
one_byte_lacks : (width : ℕ) → IsWidth width → (8 % width ≡ 0 → ⊥)
    → 0 < missing (group_symbols width) (run_count width (8 * 1))
one_byte_lacks =
    partly (λ w. 0 < missing (group_symbols w) (run_count w (8 * 1))) (omega arith) (omega arith)
    (omega arith)

module _ (base : Base) (ruled : IsRuled base) where
  width : IsWidth base.width
  width = ruled.is_width

  abbrev size : ℕ
  size = group_symbols base.width

  own_padding : (character : ℕ) → base.padding ≡ Some character
      → meaning base character ≡ Padding
  own_padding character some = (subst (λ o. IsRuledPadding base o) some ruled.padding).1

  module _ (value : ℕ) where
    abbrev bits : List ℕ
    bits = flat_map (bits_of base.order base.width) (replicate size value)

    -- the bytes of a group of one value
    abbrev bytes : List ℕ
    bytes = map (number_of base.order) (runs 8 bits)

    are_bytes : AreValuesOf base.order 8 bits bytes
    are_bytes =
        AreValuesOf-runs (group_bytes base.width) base.order 8 bits (omega arith)
        (AreBits-flat_map (bits_of base.order base.width) (replicate size value)
        (AreBits-bits_of base.order base.width))
        (length-bits_of_values base.order base.width (replicate size value)
        ∙ ap (λ n. base.width * n) (length-replicate size value) ∙ group_bits base.width width)

    group_means : (byte : ℕ) → meaning base byte ≡ Symbol value
        → Means base (replicate size byte) bytes
    group_means byte is =
        let text = replicate size byte in
        let len : length text ≡ size = length-replicate size byte in
        let positive = group_symbols-pos base.width width in
        let means : PlainMeans base (map (meaning base) text) bytes = record {
          values = replicate size value;
          rest = [];
          are_symbols =
              map-replicate (meaning base) (Symbol value) size byte is
              ∙ sym (map-replicate (λ v. Symbol v) (Symbol value) size value refl);
          same_bits = sym are_bytes.same_bits ∙ sym (append-nil _);
          rest_is_short = width.some;
          rest_is_zero = λ e. refl;
          are_bytes = All-from_recursion (λ byte. byte < 256) bytes are_bytes.below;
        } in
        rw (whole-unpadded base.padding size text len) at
        (Means-group base ruled text bytes means (omega (arith, len, positive))
        (omega (arith, len)))

  pub symbol-second : SymbolIsSecond base
  symbol-second byte value is apart = let few = group_symbols-few base.width width in (
    bytes value,
    record {
      differ = λ same.
          apart
          (replicate_same size (symbol base value) byte (group_symbols-pos base.width width) same);
      one_is_short = omega (arith, length-replicate size (symbol base value), few);
      other_is_short = omega (arith, length-replicate size byte, few);
      one_means =
          group_means value (symbol base value)
          (own_meaning base ruled value (value_below base ruled byte value is));
      other_means = group_means value byte is;
    },
  )

  module _ (byte character : ℕ) (some : base.padding ≡ Some character) where
    abbrev zero_text : List ℕ
    zero_text = plain_text base (0 ∷ [])

    abbrev lack : ℕ
    lack = missing size (length zero_text)

    -- how many padding characters there are before the last
    abbrev count : ℕ
    count = lack - 1

    abbrev fillers : List ℕ
    fillers = replicate count character ++ byte ∷ []

    lack_is : lack ≡ suc count
    lack_is =
        let lacks : 0 < lack = rw (length-plain_text base (0 ∷ []) width.some)
        (one_byte_lacks base.width width (padded-partly base ruled (ap is_some some))) in
        omega (arith, lacks)

    own_text : padded_text base (0 ∷ []) ≡ zero_text ++ replicate (suc count) character
    own_text =
        ap (λ o. with_padding o size zero_text) some
        ∙ ap (λ n. zero_text ++ replicate n character) lack_is

    whole : length zero_text + suc count ≡ size
    whole =
        let filled : length (zero_text ++ replicate lack character) ≡ size =
        length-filled_once character size zero_text (zero_some base ruled) (zero_few base ruled) in
        omega (arith, filled, length-append {A = ℕ}, length-replicate lack character, lack_is)

    length-second : length (zero_text ++ fillers) ≡ size
    length-second =
        omega (arith, whole, length-append {A = ℕ}, length-replicate count character)

    second_text : text_ending_in base byte ≡ zero_text ++ fillers
    second_text =
        let all_but_one : size - 1 ≡ length zero_text + count = omega (arith, whole) in
        rw (all_but_one, own_text) (last_replaced character byte count zero_text)

    second_means : meaning base byte ≡ Padding → Means base (text_ending_in base byte) (0 ∷ [])
    second_means is =
        rw second_text
        (Means-fillers base ruled zero_text (0 ∷ [])
        (PlainMeans-plain_text base ruled (0 ∷ []) zero_byte)
        (zero_some base ruled) (zero_few base ruled) (ap is_some some) fillers
        (all_joined (λ b. meaning base b ≡ Padding) (replicate count character) (byte ∷ [])
        (AreFillers-replicate base count character (own_padding character some)) (is, tt))
        length-second)

    same_padding : padded_text base (0 ∷ []) ≡ text_ending_in base byte → character ≡ byte
    same_padding same =
        let ends = parts_same zero_text (replicate (suc count) character) zero_text fillers
        (sym own_text ∙ same ∙ second_text) refl in
        last_same character byte count ends.1

    length-text_ending_in : length (text_ending_in base byte) ≤ 8
    length-text_ending_in =
        let few = group_symbols-few base.width width in
        omega (arith, ap length second_text, length-second, few)

  pub padding-second : PaddingIsSecond base
  padding-second byte character is some apart = record {
    differ = λ same. apart (same_padding byte character some same);
    one_is_short = omega (arith, length-zero base ruled);
    other_is_short = omega (arith, length-text_ending_in byte character some);
    one_means = Means-padded_text base ruled (0 ∷ []) zero_byte;
    other_means = second_means byte character some is;
  }
