-- The bytes of a text that are not ignored are its symbols and its padding.
use Rattle.std.proofs.Common.{◌≡◌, ℕ, ◌<◌, append-nil, Bool, true, false, not, List, [], ◌∷◌, ◌++◌, length, replicate, Option, Some, None, refl, ap, ◌∙◌}
use Rattle.std.proofs.lemmas.List.Elements.{filter-append}
use Rattle.std.specs.Prelude.{flat_map}
use Rattle.std.specs.List.{filter}
use Rattle.data_encoding_meaning.specs.declared.encoding.Character.TheVariants.{Ignored}
use Rattle.data_encoding_meaning.specs.text.Base.{Base, Wrapping, meaning, is_ignored, group_symbols}
use Rattle.data_encoding_meaning.specs.text.Bits.{missing, runs}
use Rattle.data_encoding_meaning.specs.text.Grammar.{kept, bytes_in}
use Rattle.data_encoding_meaning.specs.text.Text.{in_lines, padded_text, plain_text, text_of, with_padding}
use Rattle.data_encoding_meaning.proofs.grammar.SameBytesLemmas.{bytes-kept_in}
use Rattle.data_encoding_meaning.proofs.lists.EachLemmas.{all_joined, all_replicate, all_weaker}
use Rattle.data_encoding_meaning.proofs.lists.ListLemmas.{AllFail, filter-all}
use Rattle.data_encoding_meaning.proofs.lists.RunLemmas.{flat_map-runs}
use Rattle.data_encoding_meaning.proofs.judgement.RuleLemmas.{IsRuled, IsRuledPadding, IsRuledWrapping}
use Rattle.data_encoding_meaning.proofs.text.SymbolMeaningLemmas.{none_ignored-plain_text}

module _ {X : Type 0} (test : X → Bool) where
  filter-none : (xs : List X) → AllFail test xs → filter test xs ≡ []
  filter-none [] h = refl
  filter-none (x ∷ xs) h = rw h.0 (filter-none xs h.1)

  -- what is appended to each piece, and left out
  filter-ended : (end : List X) → filter test end ≡ [] → (parts : List (List X))
      → filter test (flat_map (λ part. part ++ end) parts)
      ≡ filter test (flat_map (λ part. part) parts)
  filter-ended end none [] = refl
  filter-ended end none (part ∷ parts) =
      simp (filter-append, none, append-nil, filter-ended end none parts)

module _ (base : Base) (ruled : IsRuled base) where
  abbrev keeps : ℕ → Bool
  keeps byte = not (is_ignored (meaning base byte))

  kept-in_lines : (text : List ℕ) → filter keeps (in_lines base.wrapping text) ≡ filter keeps text
  kept-in_lines text = by base.wrapping ruled.wrapping where
    by : (o : Option Wrapping) → IsRuledWrapping base o
        → filter keeps (in_lines o text) ≡ filter keeps text
    by None h = refl
    by (Some lines) h =
        filter-ended keeps lines.separator
        (filter-none keeps lines.separator
        (all_weaker (λ byte. (byte < 128) × (meaning base byte ≡ Ignored))
        (λ byte. keeps byte ≡ false) (λ byte rule. ap (λ m. not (is_ignored m)) rule.1)
        lines.separator h.ignored))
        (runs lines.column text)
        ∙ ap (filter keeps) (flat_map-runs lines.column text h.some)

  pub none_ignored : (bytes : List ℕ)
      → AllFail (λ byte. is_ignored (meaning base byte)) (padded_text base bytes)
  none_ignored bytes = by base.padding ruled.padding where
    by : (o : Option ℕ) → IsRuledPadding base o
        → AllFail (λ byte. is_ignored (meaning base byte))
        (with_padding o (group_symbols base.width) (plain_text base bytes))
    by None h = none_ignored-plain_text base ruled bytes
    by (Some character) h =
        let lack = missing (group_symbols base.width) (length (plain_text base bytes)) in
        let Kept : ℕ → Type 0 = λ byte. is_ignored (meaning base byte) ≡ false in
        all_joined Kept (plain_text base bytes) (replicate lack character)
        (none_ignored-plain_text base ruled bytes)
        (all_replicate Kept lack character (ap is_ignored h.1))

  pub filter-kept : (text : List ℕ) → AllFail (λ byte. is_ignored (meaning base byte)) text
      → filter keeps text ≡ text
  filter-kept text h =
      filter-all keeps text
      (all_weaker (λ byte. is_ignored (meaning base byte) ≡ false) (λ byte. keeps byte ≡ true)
      (λ byte here. ap not here) text h)

  pub bytes-kept_text : (bytes : List ℕ)
      → bytes_in (kept base (text_of base bytes)) ≡ padded_text base bytes
  bytes-kept_text bytes =
      rw (bytes-kept_in base 0 (text_of base bytes), kept-in_lines (padded_text base bytes))
      (filter-kept (padded_text base bytes) (none_ignored bytes))
