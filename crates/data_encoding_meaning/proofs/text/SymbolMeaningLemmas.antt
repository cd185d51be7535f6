-- The symbols of bytes mean the bytes.
use Rattle.std.proofs.Common.{◌≡◌, ℕ, ◌-◌, ◌%◌, ◌^◌, ◌<◌, List, [], ◌∷◌, length, map, replicate, refl, sym, ap, ◌∙◌, arith}
use Rattle.std.proofs.lemmas.List.{length-replicate}
use Rattle.std.proofs.lemmas.Nat.{mod_below}
use Rattle.std.specs.Prelude.{All}
use Rattle.std.specs.List.{AllByRecursion}
use Rattle.data_encoding_meaning.specs.declared.encoding.Character.TheVariants.{Symbol}
use Rattle.data_encoding_meaning.specs.text.Base.{Base, IsWidth, meaning, symbol, is_ignored}
use Rattle.data_encoding_meaning.specs.text.Bits.{bits_of, bits_of_bytes, number_of, missing, runs}
use Rattle.data_encoding_meaning.specs.text.Grammar.{PlainMeans}
use Rattle.data_encoding_meaning.specs.text.Text.{filled_with, plain_text}
use Rattle.data_encoding_meaning.proofs.digits.BitLemmas.{AreBits-append, AreBits-flat_map, AreBits-bits_of, AreBits-zeros}
use Rattle.data_encoding_meaning.proofs.text.PlainTextLemmas.{filled_count}
use Rattle.data_encoding_meaning.proofs.digits.ValueLemmas.{AreValuesOf, AreValuesOf-runs}
use Rattle.data_encoding_meaning.proofs.lists.EachLemmas.{map-twice}
use Rattle.data_encoding_meaning.proofs.lists.ListLemmas.{AllFail}
use Rattle.data_encoding_meaning.proofs.lists.RunLemmas.{run_count}
use Rattle.data_encoding_meaning.proofs.judgement.RuleLemmas.{IsRuled}
use Rattle.data_encoding_meaning.proofs.text.PaddedTextLemmas.{length-filled_with}

module _ (base : Base) (ruled : IsRuled base) where
  width : IsWidth base.width
  width = ruled.is_width

  pub own_meaning : (value : ℕ) → value < 2 ^ base.width
      → meaning base (symbol base value) ≡ Symbol value
  own_meaning value below = (ruled.own value (omega (arith, below, ruled.count))).1

  own_meanings : (values : List ℕ) → AllByRecursion (λ value. value < 2 ^ base.width) values
      → map (meaning base) (map (symbol base) values) ≡ map (λ value. Symbol value) values
  own_meanings [] h = refl
  own_meanings (value ∷ values) h = (λ i. own_meaning value h.0 i ∷ own_meanings values h.1 i)

  none_ignored : (values : List ℕ) → AllByRecursion (λ value. value < 2 ^ base.width) values
      → AllFail (λ byte. is_ignored (meaning base byte)) (map (symbol base) values)
  none_ignored [] h = tt
  none_ignored (value ∷ values) h = (ap is_ignored (own_meaning value h.0), none_ignored values h.1)

  module _ (bytes : List ℕ) where
    abbrev pub octets : List ℕ
    octets = bits_of_bytes base.order bytes

    abbrev pub lack : ℕ
    lack = missing base.width (length octets)

    abbrev pub bits : List ℕ
    bits = filled_with 0 base.width octets

    abbrev pub values : List ℕ
    values = map (number_of base.order) (runs base.width bits)

    pub are_values : AreValuesOf base.order base.width bits values
    are_values =
        AreValuesOf-runs (run_count base.width (length octets)) base.order base.width bits
        width.some
        (AreBits-append octets (replicate lack 0)
        (AreBits-flat_map (bits_of base.order 8) bytes (AreBits-bits_of base.order 8))
        (AreBits-zeros lack))
        (length-filled_with 0 base.width octets
        ∙ filled_count base.width (length octets) width.some)

    -- the text is the symbols of these values
    pub text_is : plain_text base bytes ≡ map (symbol base) values
    text_is = sym (map-twice (symbol base) (number_of base.order) (runs base.width bits))

    -- no byte of the text is ignored
    pub none_ignored-plain_text : AllFail (λ byte. is_ignored (meaning base byte))
        (plain_text base bytes)
    none_ignored-plain_text = rw text_is (none_ignored values are_values.below)

    pub PlainMeans-plain_text : All (λ byte. byte < 256) bytes
        → PlainMeans base (map (meaning base) (plain_text base bytes)) bytes
    PlainMeans-plain_text below =
        let rest_len = length-replicate {A = ℕ} lack 0 in record {
          values = values;
          rest = replicate lack 0;
          are_symbols = rw text_is (own_meanings values are_values.below);
          same_bits = are_values.same_bits;
          rest_is_short =
              rw rest_len
              (mod_below (base.width - length octets % base.width) base.width width.some);
          rest_is_zero = λ e. rw rest_len;
          are_bytes = below;
        }
