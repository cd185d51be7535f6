-- Texts one after another.
use Rattle.std.proofs.Common.{◌≡◌, ℕ, ◌⊎◌, flat_map, ◌+◌, ◌%◌, Bool, true, false, not, ◌&&◌, List, [], ◌∷◌, ◌++◌, length, is_some, inl, inr, sym, ap, ◌∙◌, arith, append_assoc, map}
use Rattle.std.proofs.Math.Nat.{mul-mod_left}
use Rattle.std.proofs.lemmas.List.Elements.{All-filter, All-map, recursion_from_All}
use Rattle.std.specs.Prelude.{All}
use Rattle.std.specs.List.{list_any}
use Rattle.std.proofs.Math.Bool.{and-false}
use Rattle.std.proofs.lemmas.Bool.Decides.{nat_tests}
use Rattle.data_encoding_meaning.proofs.grammar.PositionLemmas.{length-meanings, meanings-append}
use Rattle.data_encoding_meaning.specs.declared.encoding.Character.{Character}
use Rattle.data_encoding_meaning.specs.text.Base.{Base, IsWidth, meaning, is_padded, is_padding, group_symbols}
use Rattle.data_encoding_meaning.specs.text.Bits.{runs}
use Rattle.data_encoding_meaning.specs.text.Grammar.{Positioned, kept, groups, PlainMeans, GroupsMean, Means, is_final, kept_in, bytes_in, meanings_in}
use Rattle.data_encoding_meaning.specs.laws.Laws.{MayBeFollowed}
use Rattle.data_encoding_meaning.proofs.digits.WidthLemmas.{group_symbols-pos}
use Rattle.data_encoding_meaning.proofs.grammar.GroupLemmas.{symbols_alone}
use Rattle.data_encoding_meaning.proofs.grammar.KeptLemmas.{kept_in-append}
use Rattle.data_encoding_meaning.proofs.grammar.MeaningLemmas.{length-groups}
use Rattle.data_encoding_meaning.proofs.grammar.SameBytesLemmas.{bytes-kept_in, runs-alike}
use Rattle.data_encoding_meaning.proofs.grammar.UnpaddedGrammarLemmas.{unpadded-Means}
use Rattle.data_encoding_meaning.proofs.grammar.UnpaddedGroupLemmas.{PlainMeans-count}
use Rattle.data_encoding_meaning.proofs.lists.EachLemmas.{all_parts}
use Rattle.data_encoding_meaning.proofs.lists.ListLemmas.{AllFail, list_any-none}
use Rattle.data_encoding_meaning.proofs.lists.RunLemmas.{flat_map-runs, runs-join}
use Rattle.data_encoding_meaning.proofs.judgement.RuleLemmas.{IsRuled, whole-unpadded}
use Rattle.data_encoding_meaning.proofs.grammar.LengthLemmas.{widths}

module _ (base : Base) (ruled : IsRuled base) where
  width : IsWidth base.width
  width = ruled.is_width

  abbrev size : ℕ
  size = group_symbols base.width

  abbrev pads : ℕ → Bool
  pads byte = is_padding (meaning base byte)

  -- groups of which none is final, and others
  GroupsMean-append : (gs hs : List (List Positioned)) (bytes more : List ℕ)
      → AllFail (is_final base) gs → GroupsMean base (map (meanings_in base) gs) bytes
      → GroupsMean base (map (meanings_in base) hs) more
      → GroupsMean base (map (meanings_in base) (gs ++ hs)) (bytes ++ more)
  GroupsMean-append [] hs bytes more none first second = rw first second
  GroupsMean-append (g ∷ gs) hs bytes more none first second = (
    first.0,
    first.1 ++ more,
    ap (λ l. l ++ more) first.2 ∙ append_assoc first.0 first.1 more,
    first.3,
    (λ final. cc none.0),
    GroupsMean-append gs hs first.1 more none.1 first.5 second,
  )

  -- no group is final if texts concatenate, or if none has padding
  never_final : base.concatenates ≡ true → (gs : List (List Positioned))
      → AllFail (is_final base) gs
  never_final joins [] = tt
  never_final joins (g ∷ gs) =
      (ap (λ b. not b && list_any is_padding (meanings_in base g)) joins, never_final joins gs)

  no_final : (gs : List (List Positioned))
      → AllFail is_padding (meanings_in base (flat_map (λ g. g) gs)) → AllFail (is_final base) gs
  no_final [] h = tt
  no_final (g ∷ gs) h =
      let others = flat_map (λ g. g) gs in
      let parts = all_parts (λ m. is_padding m ≡ false) (meanings_in base g)
      (meanings_in base others) (rw meanings-append at h) in (
        rw (list_any-none is_padding (meanings_in base g) parts.0)
            (and-false (not base.concatenates)),
        no_final gs parts.1,
      )

  module _ (text after bytes more : List ℕ) where
    abbrev rest : List Positioned
    rest = kept_in base (0 + length text) after

    pub joined : kept base (text ++ after) ≡ kept base text ++ rest
    joined = kept_in-append base 0 text after

    same : bytes_in (kept base after) ≡ bytes_in rest
    same = bytes-kept_in base 0 after ∙ sym (bytes-kept_in base (0 + length text) after)

    none_kept : All (λ byte. pads byte ≡ false) text
        → AllFail is_padding (meanings_in base (kept base text))
    none_kept h =
        recursion_from_All (λ m. is_padding m ≡ false) (meanings_in base (kept base text))
        (All-map (λ m. is_padding m ≡ false) (meaning base) (bytes_in (kept base text))
        (rw (bytes-kept_in base 0 text) (All-filter _ (λ byte. pads byte ≡ false) text h)))

    none_final-kept : AllFail is_padding (meanings_in base (kept base text))
        → AllFail (is_final base) (groups base text)
    none_final-kept h =
        no_final (groups base text)
        (rw (flat_map-runs size (kept base text) (group_symbols-pos base.width width)) h)

    none_final : (base.concatenates ≡ true) ⊎ All (λ byte. pads byte ≡ false) text
        → AllFail (is_final base) (groups base text)
    none_final (inl joins) = never_final joins (groups base text)
    none_final (inr unpadded) = none_final-kept (none_kept unpadded)

    abbrev meant : List Character
    meant = meanings_in base (kept base text)

    pub whole-padded : is_padded base ≡ true → Means base text bytes
        → length (kept base text) % size ≡ 0
    whole-padded padded means =
        rw (length-groups base width text bytes means padded)
        (mul-mod_left (length (groups base text)) size)

    plain : is_padded base ≡ false → Means base text bytes → PlainMeans base meant bytes
    plain unpadded = (unpadded-Means base width unpadded text bytes).0

    pub whole-plain : is_padded base ≡ false → 8 % base.width ≡ 0 → Means base text bytes
        → length (kept base text) % size ≡ 0
    whole-plain unpadded divides means =
        let symbols = plain unpadded means in
        let count = PlainMeans-count base width meant bytes symbols in
        rw (← (length-meanings base (kept base text)))
        (grind (arith, nat_tests, widths base.width width, count, symbols.rest_is_short))

    -- if another text may follow, the groups are whole and none is final
    pub followed : MayBeFollowed base text → Means base text bytes
        → (length (kept base text) % size ≡ 0) × AllFail (is_final base) (groups base text)
    followed (inl follows) means = (whole-padded follows.0 means, none_final follows.1)
    followed (inr divides) means =
        let unpadded = ap is_some (whole-unpadded base base.padding ruled.padding divides) in
        let symbols = plain unpadded means in (
          whole-plain unpadded divides means,
          none_final-kept (rw symbols.are_symbols (symbols_alone symbols.values)),
        )

    pub Means-join : MayBeFollowed base text → Means base text bytes → Means base after more
        → Means base (text ++ after) (bytes ++ more)
    Means-join follows first second =
        let whole = followed follows first in
        let pos = group_symbols-pos base.width width in
        rw (joined, runs-join size (kept base text) rest pos whole.0)
        (GroupsMean-append (groups base text) (runs size rest) bytes more whole.1 first
        (rw (runs-alike base width (kept base after) rest (ap (map (meaning base)) same))
        at second))
