-- The symbols of a group give bytes, or the index of the first byte that is no symbol.
use Rattle.std.proofs.Common.{◌≡◌, ℕ, true, not, List, length, map, Option, Some, None, refl, ap, ◌∙◌}
use Rattle.std.proofs.lemmas.List.{length-map}
use Rattle.std.specs.List.{position}
use Rattle.data_encoding_meaning.specs.declared.encoding.Character.{Character}
use Rattle.data_encoding_meaning.specs.text.Base.{Base, IsWidth, is_symbol, meaning}
use Rattle.data_encoding_meaning.specs.text.Lengths.{is_valid_count}
use Rattle.data_encoding_meaning.specs.decoding.Fault.{fault_at_first, plain_fault, trailing_fault}
use Rattle.data_encoding_meaning.specs.laws.Layers.{TellsSymbols, checking_none}
use Rattle.data_encoding_meaning.specs.laws.Told.{first_other}
use Rattle.data_encoding_meaning.proofs.decoding.ByteFaultLemmas.{first_other-meanings}
use Rattle.data_encoding_meaning.proofs.grammar.UnpaddedGroupLemmas.{PlainMeans-sound, plain_fault-valid}

module _ (base : Base) (width : IsWidth base.width) (symbols : List ℕ)
    (valid : is_valid_count base.width (length symbols) ≡ true) where
  abbrev means : List Character
  means = map (meaning base) symbols

  found : position (λ m. not (is_symbol m)) means ≡ first_other base symbols
  found = first_other-meanings base symbols

  none-other : first_other base symbols ≡ None → TellsSymbols base symbols None
  none-other none =
      let count : is_valid_count base.width (length means) ≡ true =
      rw (length-map symbols (meaning base)) valid in
      let each = found ∙ none in
      let no_fault : plain_fault (checking_none base) means ≡ None =
      plain_fault-valid (checking_none base) means count
      ∙ ap (λ o. fault_at_first o None) each in (
        PlainMeans-sound (checking_none base) width means no_fault,
        ap (λ o. fault_at_first o (trailing_fault base means)) each,
      )

  pub symbols-first_other : TellsSymbols base symbols (first_other base symbols)
  symbols-first_other = by (first_other base symbols) refl where
    by : (o : Option ℕ) → first_other base symbols ≡ o → TellsSymbols base symbols o
    by None none = none-other none
    by (Some index) some =
        ap (λ o. fault_at_first o (trailing_fault base means)) (found ∙ some)
