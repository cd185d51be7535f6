-- Texts of the same data in two encodings that differ in their symbols only.
use Rattle.std.proofs.Common.{◌≡◌, ℕ, ◌^◌, ◌<◌, List, [], ◌∷◌, ◌++◌, length, map, Option, Some, None, is_some, refl, sym, subst}
use Rattle.std.proofs.lemmas.List.{length-map, map-append}
use Rattle.std.specs.Prelude.{flat_map}
use Rattle.std.specs.List.{AllByRecursion}
use Rattle.data_encoding_meaning.specs.declared.encoding.Character.TheVariants.{Ignored, Padding}
use Rattle.data_encoding_meaning.specs.text.Base.{Base, Wrapping, meaning, symbol, group_symbols}
use Rattle.data_encoding_meaning.specs.text.Bits.{bits_of_bytes, missing, number_of, runs}
use Rattle.data_encoding_meaning.specs.laws.SameMeaning.{DifferInSymbols, exchanged}
use Rattle.data_encoding_meaning.specs.text.Text.{filled_with, in_lines, padded_text, plain_text, text_of, with_padding}
use Rattle.data_encoding_meaning.proofs.lists.EachLemmas.{map-twice}
use Rattle.data_encoding_meaning.proofs.lists.RepeatLemmas.{map-replicate}
use Rattle.data_encoding_meaning.proofs.lists.RunLemmas.{runs-map}
use Rattle.data_encoding_meaning.proofs.judgement.RuleLemmas.{AreLines, IsRuled, IsRuledPadding, IsRuledWrapping}
use Rattle.data_encoding_meaning.proofs.text.SymbolMeaningLemmas.{are_values, own_meaning, text_is, values}

module _ (base other : Base) (ruled : IsRuled base) (differ : DifferInSymbols base other) where
  abbrev exchange : ℕ → ℕ
  exchange = exchanged base other

  symbols-exchanged : (ns : List ℕ) → AllByRecursion (λ n. n < 2 ^ base.width) ns
      → map exchange (map (symbol base) ns) ≡ map (symbol other) ns
  symbols-exchanged [] h = refl
  symbols-exchanged (n ∷ ns) h = rw (own_meaning base ruled n h.0, symbols-exchanged ns h.1)

  plain-exchanged : (bytes : List ℕ)
      → plain_text other bytes ≡ map exchange (plain_text base bytes)
  plain-exchanged bytes =
      let filled = filled_with 0 base.width (bits_of_bytes base.order bytes) in
      rw (text_is base ruled bytes, ← differ.width, ← differ.order)
      (rw (symbols-exchanged (values base ruled bytes) (are_values base ruled bytes).below)
      (sym (map-twice (symbol other) (number_of base.order) (runs base.width filled))))

  filled-exchanged : (character another size : ℕ) (text : List ℕ)
      → exchange character ≡ another
      → filled_with another size (map exchange text)
      ≡ map exchange (filled_with character size text)
  filled-exchanged character another size text same =
      rw (length-map text exchange, map-append)
      (rw (map-replicate exchange another (missing size (length text)) character same))

  padding-exchanged : (o p : Option ℕ) → base.padding ≡ o → other.padding ≡ p
      → is_some o ≡ is_some p → (size : ℕ) (text : List ℕ)
      → with_padding p size (map exchange text) ≡ map exchange (with_padding o size text)
  padding-exchanged None None is also same size text = refl
  padding-exchanged None (Some another) is also same size text = cc
  padding-exchanged (Some character) None is also same size text = cc
  padding-exchanged (Some character) (Some another) is also same size text =
      let own : meaning base character ≡ Padding =
      (subst (λ o. IsRuledPadding base o) is ruled.padding).1 in
      filled-exchanged character another size text
      (rw (own, also))

  padded-exchanged : (bytes : List ℕ)
      → padded_text other bytes ≡ map exchange (padded_text base bytes)
  padded-exchanged bytes =
      rw (plain-exchanged bytes, ← differ.width)
      (padding-exchanged base.padding other.padding refl refl differ.padded
      (group_symbols base.width) (plain_text base bytes))

  ignored-exchanged : (part : List ℕ)
      → AllByRecursion (λ byte. (byte < 128) × (meaning base byte ≡ Ignored)) part
      → map exchange part ≡ part
  ignored-exchanged [] h = refl
  ignored-exchanged (byte ∷ part) h = rw (h.0.1, ignored-exchanged part h.1)

  module _ (lines : Wrapping) (are : AreLines base lines) where
    each_line : (parts : List (List ℕ))
        → flat_map (λ line. line ++ lines.separator) (map (map exchange) parts)
        ≡ map exchange (flat_map (λ line. line ++ lines.separator) parts)
    each_line [] = refl
    each_line (part ∷ parts) =
        simp (map-append, ignored-exchanged lines.separator are.ignored, each_line parts)

  lines-exchanged : (o : Option Wrapping) → IsRuledWrapping base o → (text : List ℕ)
      → in_lines o (map exchange text) ≡ map exchange (in_lines o text)
  lines-exchanged None are text = refl
  lines-exchanged (Some lines) are text =
      rw (runs-map lines.column exchange text are.some)
      (each_line lines are (runs lines.column text))

  -- the law
  pub text_of-exchanged : (bytes : List ℕ)
      → text_of other bytes ≡ map exchange (text_of base bytes)
  text_of-exchanged bytes =
      rw (← differ.wrapping, padded-exchanged bytes)
      (lines-exchanged base.wrapping ruled.wrapping (padded_text base bytes))
