-- A group of symbols, followed by padding.
use Rattle.std.proofs.Common.{◌≡◌, ℕ, ◌<◌, ◌≤◌, true, List, [], ◌∷◌, ◌++◌, length, map, replicate, refl, sym, ◌∙◌, arith}
use Rattle.std.proofs.lemmas.Bool.{false≢true}
use Rattle.std.proofs.lemmas.List.{length-map, map-append}
use Rattle.std.specs.List.{AllByRecursion}
use Rattle.data_encoding_meaning.specs.declared.encoding.Character.TheVariants.{Padding}
use Rattle.data_encoding_meaning.specs.text.Base.{Base, is_padded, meaning, group_symbols}
use Rattle.data_encoding_meaning.specs.text.Grammar.{GroupMeans, PlainMeans}
use Rattle.data_encoding_meaning.specs.text.Text.{filled_with}
use Rattle.data_encoding_meaning.proofs.text.PlainTextLemmas.{filled_count}
use Rattle.data_encoding_meaning.proofs.lists.EachLemmas.{all_replicate}
use Rattle.data_encoding_meaning.proofs.lists.RunLemmas.{run_count-short}
use Rattle.data_encoding_meaning.proofs.text.PaddedTextLemmas.{length-filled_with}

-- a few, filled, are one whole
pub length-filled_once : (character size : ℕ) (text : List ℕ) → 0 < length text
    → length text ≤ size → length (filled_with character size text) ≡ size
length-filled_once character size text some few =
    rw (length-filled_with character size text, filled_count size (length text) (omega arith))
    (rw (run_count-short size (length text) some few) (omega arith))

module _ (base : Base) where
  -- bytes that each mean padding
  abbrev pub AreFillers : List ℕ → Type 0
  AreFillers fillers = AllByRecursion (λ byte. meaning base byte ≡ Padding) fillers

  padding_of : (fillers : List ℕ) → AreFillers fillers
      → map (meaning base) fillers ≡ replicate (length fillers) Padding
  padding_of [] all = refl
  padding_of (filler ∷ fillers) all = λ i. all.0 i ∷ padding_of fillers all.1 i

  pub AreFillers-replicate : (count character : ℕ) → meaning base character ≡ Padding
      → AreFillers (replicate count character)
  AreFillers-replicate count character is =
      all_replicate (λ byte. meaning base byte ≡ Padding) count character is

  -- symbols that mean bytes, with padding up to a whole group, are a group that means them
  pub GroupMeans-fillers : (text fillers bytes : List ℕ) → is_padded base ≡ true
      → PlainMeans base (map (meaning base) text) bytes → 0 < length text
      → length (text ++ fillers) ≡ group_symbols base.width → AreFillers fillers
      → GroupMeans base (map (meaning base) (text ++ fillers)) bytes
  GroupMeans-fillers text fillers bytes padded means some whole all = record {
    symbols = map (meaning base) text;
    padding = length fillers;
    is_group = rw (map-append, padding_of fillers all);
    is_whole = λ _. rw length-map whole;
    is_plain = λ unpadded. absurd (false≢true (sym unpadded ∙ padded));
    is_begun = rw length-map some;
    means = means;
  }
