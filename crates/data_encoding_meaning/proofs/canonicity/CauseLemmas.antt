-- A base without a cause of a second text has one text for the same data, and no other base has.
use Rattle.std.proofs.Common.{◌≡◌, ◌↔◌, ℕ, ◌==◌, Bool, true, false, not, ◌&&◌, IsTrue, List, [], ◌∷◌, length, Option, Some, None, refl, sym, ◌∙◌, arith}
use Rattle.std.proofs.lemmas.Bool.{and_parts, false≢true}
use Rattle.std.specs.List.{AllByRecursion}
use Rattle.data_encoding_meaning.specs.declared.encoding.Character.{Character}
use Rattle.data_encoding_meaning.specs.declared.encoding.Character.TheVariants.{Symbol, Padding, Ignored, Invalid}
use Rattle.data_encoding_meaning.specs.text.Base.{Base, meaning, symbol, is_ignored, is_padded, ignores_some}
use Rattle.data_encoding_meaning.specs.laws.Canonical.{AreTwoTexts, IsCanonical, has_one_text}
use Rattle.data_encoding_meaning.specs.specification.Layout.{is_translated, own_character, translated_bytes}
use Rattle.data_encoding_meaning.proofs.canonicity.ConcatenatedTextLemmas.{concatenated-second}
use Rattle.data_encoding_meaning.proofs.canonicity.IgnoredTextLemmas.{ignored-second}
use Rattle.data_encoding_meaning.proofs.canonicity.OneTextLemmas.{Means-text_of_only}
use Rattle.data_encoding_meaning.proofs.canonicity.TrailingTextLemmas.{trailing-second}
use Rattle.data_encoding_meaning.proofs.canonicity.TranslatedTextLemmas.{padding-second, symbol-second}
use Rattle.data_encoding_meaning.proofs.lists.EachLemmas.{all_in_range, none_passes}
use Rattle.data_encoding_meaning.proofs.judgement.RuleLemmas.{IsRuled}
use Rattle.data_encoding_meaning.proofs.judgement.TranslationLemmas.{is_translated_byte}
use Rattle.data_encoding_meaning.proofs.tables.EntryLemmas.{false_or, test_apart}

none_in : (l : List ℕ) → AllByRecursion (λ _. ⊥) l → l ≡ []
none_in [] h = refl
none_in (x ∷ l) h = absurd h.0

unless_false : (b : Bool) → (b ≡ false → ⊥) → b ≡ true
unless_false b h = grind arith

module _ (base : Base) (ruled : IsRuled base) where
  module _ (one : IsCanonical base) where
    no_two : (text other bytes : List ℕ) → AreTwoTexts base text other bytes → ⊥
    no_two text other bytes two =
        two.differ
        (one text other bytes (omega (arith, two.one_is_short)) (omega (arith, two.other_is_short))
        two.one_means two.other_means)

    checks : base.checks_trailing_bits ≡ true
    checks =
        unless_false base.checks_trailing_bits
        (λ unchecked. no_two _ _ _ (trailing-second base ruled unchecked))

    alone : (is_padded base && base.concatenates) ≡ false
    alone =
        false_or (is_padded base && base.concatenates)
        (λ both.
        let parts = and_parts (is_padded base) base.concatenates both in
        no_two _ _ _ (concatenated-second base ruled parts.0 parts.1))

    keeps : ignores_some base ≡ false
    keeps =
        none_passes is_ignored base.meanings Invalid
        (λ byte within. false_or (is_ignored (meaning base byte))
        (λ is. no_two _ _ _ (ignored-second base ruled byte is)))

    own : (byte : ℕ) → is_translated_byte base byte ≡ true → ⊥
    own byte = by_meaning (meaning base byte) refl where
      by_padding : (o : Option ℕ) → base.padding ≡ o → meaning base byte ≡ Padding
          → is_translated base byte o ≡ true → ⊥
      by_padding None some is h = false≢true h
      by_padding (Some character) some is h =
          no_two _ _ _
          (padding-second base ruled byte character is some (test_apart character byte h))

      by_meaning : (m : Character) → meaning base byte ≡ m
          → is_translated base byte (own_character base m) ≡ true → ⊥
      by_meaning (Symbol value) is h =
          let apart = test_apart (symbol base value) byte h in
          no_two _ _ _ (symbol-second base ruled byte value is apart).1
      by_meaning Padding is h = by_padding base.padding refl is h
      by_meaning Ignored is h = false≢true h
      by_meaning Invalid is h = false≢true h

    none_translated : translated_bytes base ≡ []
    none_translated =
        none_in (translated_bytes base)
        (all_in_range (λ _. ⊥) (is_translated_byte base) 0 128 (λ byte low high is. own byte is))

    has_one : has_one_text base ≡ true
    has_one =
        (λ i. checks i && not (alone i) && not (keeps i) && (length (none_translated i) == 0))

  -- the test and the fact
  pub canonical-by : (result : Bool) → result ≡ has_one_text base
      → IsTrue result ↔ IsCanonical base
  canonical-by result is = (
    (λ h text other bytes short few one two.
        let only = Means-text_of_only base ruled (sym is ∙ h) in
        only text bytes one ∙ sym (only other bytes two)),
    (λ one. is ∙ has_one one),
  )
