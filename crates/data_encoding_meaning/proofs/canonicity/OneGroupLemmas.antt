-- Texts of one group, and what they mean.
use Rattle.std.proofs.Common.{◌≡◌, ℕ, ◌<◌, ◌≤◌, List, [], ◌∷◌, ◌++◌, length, map, replicate, false, true, Option, Some, None, is_some, refl, sym, ap, ◌∙◌, arith, append-nil, All}
use Rattle.data_encoding_meaning.specs.declared.encoding.Character.TheVariants.{Symbol, Padding}
use Rattle.data_encoding_meaning.specs.text.Base.{Base, IsWidth, meaning, is_ignored, is_padded, group_symbols}
use Rattle.data_encoding_meaning.specs.text.Bits.{missing}
use Rattle.data_encoding_meaning.specs.text.Grammar.{GroupMeans, Means, PlainMeans, bytes_in, kept}
use Rattle.data_encoding_meaning.specs.text.Text.{padded_text, plain_text, text_of, with_padding}
use Rattle.data_encoding_meaning.proofs.digits.WidthLemmas.{group_bytes-pos, group_symbols-few, group_symbols-pos}
use Rattle.data_encoding_meaning.proofs.grammar.PositionLemmas.{runs-meanings}
use Rattle.data_encoding_meaning.proofs.grammar.SameBytesLemmas.{Means-same, bytes-kept_in}
use Rattle.data_encoding_meaning.proofs.grammar.UnpaddedGrammarLemmas.{unpadded-Means}
use Rattle.data_encoding_meaning.proofs.lists.EachLemmas.{all_joined, all_weaker}
use Rattle.data_encoding_meaning.proofs.lists.ListLemmas.{AllFail}
use Rattle.data_encoding_meaning.proofs.lists.RunLemmas.{run_count-some, runs-short}
use Rattle.data_encoding_meaning.proofs.judgement.RuleLemmas.{IsRuled, IsRuledPadding}
use Rattle.data_encoding_meaning.proofs.text.KeptTextLemmas.{bytes-kept_text, filter-kept, none_ignored}
use Rattle.data_encoding_meaning.proofs.text.LastGroupLemmas.{AreFillers, AreFillers-replicate, GroupMeans-fillers, length-filled_once}
use Rattle.data_encoding_meaning.proofs.text.PlainTextLemmas.{length-plain_text}
use Rattle.data_encoding_meaning.proofs.text.TextMeaningLemmas.{Means-text_of, few_symbols}

-- symbols are not ignored
symbols_kept : (base : Base) (text values : List ℕ)
    → map (meaning base) text ≡ map (λ value. Symbol value) values
    → AllFail (λ byte. is_ignored (meaning base byte)) text
symbols_kept base [] values h = tt
symbols_kept base (byte ∷ text) [] h = cc
symbols_kept base (byte ∷ text) (value ∷ values) h =
    let here : meaning base byte ≡ Symbol value = cc in
    (ap is_ignored here, symbols_kept base text values cc)

module _ (base : Base) (ruled : IsRuled base) where
  width : IsWidth base.width
  width = ruled.is_width

  abbrev size : ℕ
  size = group_symbols base.width

  abbrev keeps_all : List ℕ → Type 0
  keeps_all text = AllFail (λ byte. is_ignored (meaning base byte)) text

  -- a text of which no byte is ignored
  all_kept : (text : List ℕ) → keeps_all text → bytes_in (kept base text) ≡ text
  all_kept text all = bytes-kept_in base 0 text ∙ filter-kept base ruled text all

  -- the text of bytes means them without lines too
  pub Means-padded_text : (bytes : List ℕ) → All (λ byte. byte < 256) bytes
      → Means base (padded_text base bytes) bytes
  Means-padded_text bytes below =
      Means-same base width (text_of base bytes) (padded_text base bytes) bytes
      (bytes-kept_text base ruled bytes
      ∙ sym (all_kept (padded_text base bytes) (none_ignored base ruled bytes)))
      (Means-text_of base ruled bytes below)

  -- symbols that mean bytes, few enough for a group
  module _ (text bytes : List ℕ) (means : PlainMeans base (map (meaning base) text) bytes)
      (some : 0 < length text) (few : length text ≤ group_symbols base.width) where
    symbols : keeps_all text
    symbols = symbols_kept base text means.values means.are_symbols

    -- with padding up to a whole group, of any bytes that mean it
    pub Means-fillers : is_padded base ≡ true → (fillers : List ℕ) → AreFillers base fillers
        → length (text ++ fillers) ≡ group_symbols base.width → Means base (text ++ fillers) bytes
    Means-fillers padded fillers all whole =
        let filled = text ++ fillers in
        let keeps : keeps_all filled =
        all_joined (λ byte. is_ignored (meaning base byte) ≡ false) text fillers symbols
        (all_weaker (λ byte. meaning base byte ≡ Padding)
        (λ byte. is_ignored (meaning base byte) ≡ false) (λ byte is. ap is_ignored is) fillers
        all) in
        let group : GroupMeans base (map (meaning base) filled) bytes =
        GroupMeans-fillers base text fillers bytes padded means some whole all in
        let many = group.is_whole padded in
        let one = runs-short size (map (meaning base) filled) (omega (arith, many, some, few))
        (omega (arith, many)) in
        let pos = group_symbols-pos base.width width in
        rw (← runs-meanings base size (kept base filled) pos, all_kept filled keeps, one)
        (bytes, [], sym (append-nil bytes), group, (λ final. refl), refl)

    -- with the padding character
    pub Means-group : Means base (with_padding base.padding (group_symbols base.width) text) bytes
    Means-group = by base.padding refl ruled.padding where
      by : (o : Option ℕ) → base.padding ≡ o → IsRuledPadding base o
          → Means base (with_padding o size text) bytes
      by None is h =
          (unpadded-Means base width (ap is_some is) text bytes).1
          (rw (all_kept text symbols) means)
      by (Some character) is h =
          let count = missing size (length text) in
          Means-fillers (ap is_some is) (replicate count character)
          (AreFillers-replicate base count character h.1)
          (length-filled_once character size text some few)

  pub length-group : (o : Option ℕ) (text : List ℕ) → 0 < length text
      → length text ≤ group_symbols base.width
      → length (with_padding o (group_symbols base.width) text) ≤ 8
  length-group None text some few = omega (arith, few, group_symbols-few base.width width)
  length-group (Some character) text some few =
      let filled = length-filled_once character size text some few in
      omega (arith, filled, group_symbols-few base.width width)

  pub zero_some : 0 < length (plain_text base (0 ∷ []))
  zero_some =
      rw (length-plain_text base (0 ∷ []) width.some)
      (run_count-some base.width 8 width.some (omega arith))

  pub zero_few : length (plain_text base (0 ∷ [])) ≤ group_symbols base.width
  zero_few =
      rw (length-plain_text base (0 ∷ []) width.some)
      (few_symbols base.width width 1 (group_bytes-pos base.width width))

  -- the text of a byte 0 is a group at most
  pub length-zero : length (padded_text base (0 ∷ [])) ≤ 8
  length-zero = length-group base.padding (plain_text base (0 ∷ [])) zero_some zero_few
