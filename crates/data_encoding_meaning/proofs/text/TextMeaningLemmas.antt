-- The text of bytes means the bytes.
use Rattle.std.proofs.Common.{◌≡◌, ℕ, ◌*◌, ◌%◌, ◌<◌, ◌≤◌, true, List, [], ◌++◌, length, take, drop, replicate, Option, Some, None, is_some, refl, sym, ap, ◌∙◌, arith, ⊎_elim, take-append-drop, length-take-le, map}
use Rattle.std.proofs.Math.Nat.{mod-eq_of_lt, mod_self}
use Rattle.std.proofs.lemmas.Bool.{cases_lt, false≢true}
use Rattle.std.proofs.lemmas.List.{append-nil, length-map, map-append}
use Rattle.std.proofs.lemmas.List.Elements.{All-take, All-drop}
use Rattle.std.specs.Prelude.{All}
use Rattle.data_encoding_meaning.specs.declared.encoding.Character.TheVariants.{Padding}
use Rattle.data_encoding_meaning.specs.text.Base.{Base, IsWidth, meaning, is_padded, group_bytes, group_symbols}
use Rattle.data_encoding_meaning.specs.text.Bits.{missing, runs}
use Rattle.data_encoding_meaning.specs.text.Grammar.{GroupsMean, Means, bytes_in, kept}
use Rattle.data_encoding_meaning.specs.text.Text.{filled_with, plain_text, text_of, with_padding}
use Rattle.data_encoding_meaning.proofs.digits.WidthLemmas.{by_width, group_bytes-pos, group_symbols-pos}
use Rattle.data_encoding_meaning.proofs.grammar.GroupLemmas.{GroupMeans-symbols}
use Rattle.data_encoding_meaning.proofs.grammar.PositionLemmas.{runs-meanings}
use Rattle.data_encoding_meaning.proofs.grammar.UnpaddedGrammarLemmas.{unpadded-Means}
use Rattle.data_encoding_meaning.proofs.grammar.SoundLemmas.{symbols-not_final}
use Rattle.data_encoding_meaning.proofs.lists.RunLemmas.{by_runs, run_count, run_count-some, runs-append, runs-nil, runs-short}
use Rattle.data_encoding_meaning.proofs.judgement.RuleLemmas.{IsRuled, IsRuledPadding}
use Rattle.data_encoding_meaning.proofs.text.LastGroupLemmas.{AreFillers-replicate, GroupMeans-fillers, length-filled_once}
use Rattle.data_encoding_meaning.proofs.text.KeptTextLemmas.{bytes-kept_text}
use Rattle.data_encoding_meaning.proofs.text.SymbolMeaningLemmas.{PlainMeans-plain_text}
use Rattle.data_encoding_meaning.proofs.text.PlainTextLemmas.{filled-join, filled-whole, length-plain_text, plain_text-join, plain_text-nil}
use Rattle.data_encoding_meaning.proofs.grammar.LengthLemmas.{widths}
use Rattle.data_encoding_meaning.specs.declared.encoding.Character.{Character}

-- a whole group of symbols of a whole group; one group of no more
whole_bits : (width : ℕ) → IsWidth width → 8 * group_bytes width % width ≡ 0
whole_bits = by_width (λ w. 8 * group_bytes w % w ≡ 0) refl refl refl refl refl refl

whole_symbols : (width : ℕ) → IsWidth width
    → run_count width (8 * group_bytes width) ≡ group_symbols width
whole_symbols =
    by_width (λ w. run_count w (8 * group_bytes w) ≡ group_symbols w) refl refl refl refl refl refl

pub few_symbols : (width : ℕ) → IsWidth width → (n : ℕ) → n ≤ group_bytes width
    → run_count width (8 * n) ≤ group_symbols width
few_symbols width is n few = grind (arith, widths width is)

module _ (base : Base) (ruled : IsRuled base) where
  width : IsWidth base.width
  width = ruled.is_width

  module _ (padded : is_padded base ≡ true) (character : ℕ)
      (means_padding : meaning base character ≡ Padding) where
    abbrev size : ℕ
    size = group_symbols base.width

    abbrev filled : List ℕ → List ℕ
    filled bytes = filled_with character size (plain_text base bytes)

    abbrev AreMeant : List ℕ → Type 0
    AreMeant bytes = GroupsMean base (runs size (map (meaning base) (filled bytes))) bytes

    none_meant : AreMeant []
    none_meant =
        let positive = group_symbols-pos base.width width in
        let empty : filled [] ≡ [] =
        rw (plain_text-nil base width.some)
        (filled-whole character size [] (mod-eq_of_lt positive)) in
        rw (empty, runs-nil {X = Character} size positive)

    -- the last group
    last_meant : (bytes : List ℕ) → All (λ byte. byte < 256) bytes → 0 < length bytes
        → length bytes ≤ group_bytes base.width → AreMeant bytes
    last_meant bytes below some few =
        let text = plain_text base bytes in
        let len = length-plain_text base bytes width.some in
        let begun = run_count-some base.width (8 * length bytes) width.some (omega arith) in
        let within = few_symbols base.width width (length bytes) few in
        let count = missing size (length text) in
        let means = GroupMeans-fillers base text (replicate count character) bytes padded
        (PlainMeans-plain_text base ruled bytes below) (omega (arith, len, begun))
        (length-filled_once character size text (omega (arith, len, begun))
        (omega (arith, len, within)))
        (AreFillers-replicate base count character means_padding) in
        let whole = means.is_whole padded in
        rw (runs-short size (map (meaning base) (filled bytes))
        (omega (arith, whole, group_symbols-pos base.width width)) (omega (arith, whole)))
        (bytes, [], sym (append-nil bytes), means, (λ final. refl), refl)

    -- a whole group, and those of the others
    next_meant : (bytes : List ℕ) → All (λ byte. byte < 256) bytes
        → group_bytes base.width ≤ length bytes → AreMeant (drop (group_bytes base.width) bytes)
        → AreMeant bytes
    next_meant bytes below long others =
        let count = group_bytes base.width in
        let front = take count bytes in
        let rest = drop count bytes in
        let text = plain_text base front in
        let front_len : length front ≡ count = length-take-le count bytes long in
        let symbols = PlainMeans-plain_text base ruled front
        (All-take (λ byte. byte < 256) count bytes below) in
        let text_len : length text ≡ size =
        rw (length-plain_text base front width.some, front_len) (whole_symbols base.width width) in
        let many = length-map text (meaning base) ∙ text_len in
        let means = GroupMeans-symbols base (map (meaning base) text) front
        (omega (arith, many, group_symbols-pos base.width width)) (λ padded. many) symbols in
        let joined : plain_text base bytes ≡ text ++ plain_text base rest =
        rw take-append-drop at (plain_text-join base front rest width.some
        (rw front_len (whole_bits base.width width))) in
        let filled_join = filled-join character size text (plain_text base rest)
        (group_symbols-pos base.width width) (rw text_len (mod_self size)) in
        rw (
          joined,
          filled_join,
          map-append,
          runs-append size (map (meaning base) text) (map (meaning base) (filled rest))
              (group_symbols-pos base.width width) many,
        ) (
          front,
          rest,
          sym (take-append-drop count bytes),
          means,
          (λ final. absurd (false≢true
              (sym (symbols-not_final base (map (meaning base) text) symbols.values
              symbols.are_symbols)
              ∙ final))),
          others,
        )

    -- group by group
    groups_meant : (bytes : List ℕ) → All (λ byte. byte < 256) bytes → AreMeant bytes
    groups_meant =
        let count = group_bytes base.width in
        by_runs count (group_bytes-pos base.width width)
        (λ bytes. All (λ byte. byte < 256) bytes → AreMeant bytes) (λ below. none_meant)
        (λ bytes some others below.
        ⊎_elim (λ (short : length bytes < count). last_meant bytes below some (omega arith))
        (λ (long : count ≤ length bytes).
        next_meant bytes below long (others (All-drop (λ byte. byte < 256) count bytes below)))
        (cases_lt (length bytes) count))

  -- the text of bytes means the bytes
  pub Means-text_of : (bytes : List ℕ) → All (λ byte. byte < 256) bytes
      → Means base (text_of base bytes) bytes
  Means-text_of bytes below =
      by base.padding refl ruled.padding (bytes-kept_text base ruled bytes) where
        by : (o : Option ℕ) → base.padding ≡ o → IsRuledPadding base o
            → bytes_in (kept base (text_of base bytes))
            ≡ with_padding o (group_symbols base.width) (plain_text base bytes)
            → Means base (text_of base bytes) bytes
        by None is h same =
            (unpadded-Means base width (ap is_some is) (text_of base bytes) bytes).1
            (rw same (PlainMeans-plain_text base ruled bytes below))
        by (Some character) is h same =
            let cut = runs-meanings base (group_symbols base.width) (kept base (text_of base bytes))
            (group_symbols-pos base.width width) in
            rw (← cut, same)
            (groups_meant (ap is_some is) character h.1 bytes below)
