-- If a translated byte is the only cause of a second text, the own form of a text that means data
-- is the text of the data; if there is no cause at all, the text itself is.
use Rattle.std.proofs.Common.{◌≡◌, ◌↔◌, ℕ, ◌+◌, ◌*◌, ◌%◌, ◌<◌, ◌==◌, true, false, ◌&&◌, List, [], ◌∷◌, ◌++◌, length, map, replicate, Option, Some, None, is_some, unwrap_or, refl, sym, ap, ◌∙◌, subst, arith, zero, suc, nat_lt, take, drop, length-take-le, take-append-drop, flat_map}
use Rattle.std.proofs.lemmas.Bool.{and_parts, eqb-true}
use Rattle.std.proofs.lemmas.List.{append-nil, length-map, map-append, nil_from_length}
use Rattle.std.proofs.Math.Nat.{mod-eq_of_lt, mod_self, mul-mod_left, mul_comm}
use Rattle.std.proofs.lemmas.Bool.Decides.{nat_tests}
use Rattle.data_encoding_meaning.specs.declared.encoding.Character.TheVariants.{Padding}
use Rattle.data_encoding_meaning.specs.text.Base.{Base, IsWidth, group_bytes, meaning, is_padded, ignores_some, group_symbols}
use Rattle.data_encoding_meaning.specs.text.Bits.{runs}
use Rattle.data_encoding_meaning.specs.laws.Canonical.{has_one_text}
use Rattle.data_encoding_meaning.specs.decoding.Fault.{sound_bytes}
use Rattle.data_encoding_meaning.specs.text.Grammar.{Positioned, GroupMeans, GroupsMean, Means, kept, positioned, is_final, bytes_in, meanings_in}
use Rattle.data_encoding_meaning.specs.specification.Layout.{own_character, translated_bytes}
use Rattle.data_encoding_meaning.specs.laws.SameMeaning.{has_one_own_form, own_form}
use Rattle.data_encoding_meaning.specs.text.Text.{filled_with, plain_text, text_of, with_padding}
use Rattle.data_encoding_meaning.proofs.canonicity.OwnTextLemmas.{missing-is, own_form-itself, own_form-meaning, paddings_are, plain_is}
use Rattle.data_encoding_meaning.proofs.digits.WidthLemmas.{group_bits, group_symbols-pos}
use Rattle.data_encoding_meaning.proofs.grammar.GroupLemmas.{GroupMeans-length, GroupMeans-padding}
use Rattle.data_encoding_meaning.proofs.grammar.MeaningLemmas.{sound_bytes-Means}
use Rattle.data_encoding_meaning.proofs.grammar.PositionLemmas.{bytes-positioned_from, filter-plain}
use Rattle.data_encoding_meaning.proofs.grammar.SameMeaningLemmas.{Means-alike_in}
use Rattle.data_encoding_meaning.proofs.grammar.TightLemmas.{no_lines-plain}
use Rattle.data_encoding_meaning.proofs.grammar.UnpaddedGrammarLemmas.{unpadded-Means}
use Rattle.data_encoding_meaning.proofs.grammar.UnpaddedGroupLemmas.{PlainMeans-count}
use Rattle.data_encoding_meaning.proofs.lists.ListLemmas.{parts_same}
use Rattle.data_encoding_meaning.proofs.lists.RunLemmas.{flat_map-runs}
use Rattle.data_encoding_meaning.proofs.judgement.RuleLemmas.{IsRuled}
use Rattle.data_encoding_meaning.proofs.text.PaddedTextLemmas.{text_of-unwrapped}
use Rattle.data_encoding_meaning.proofs.text.PlainTextLemmas.{filled-join, filled-whole, plain_text-join, plain_text-nil}

-- The rules of a base whose only cause of a second text is a translated byte.
record HasOneForm (base : Base) : Type 0 where
  pub checks : base.checks_trailing_bits ≡ true
  pub alone : (is_padded base && base.concatenates) ≡ false
  pub keeps : ignores_some base ≡ false

parts_of : (base : Base) → has_one_own_form base ≡ true → HasOneForm base
parts_of base h = record {
  checks = grind (arith, h);
  alone = grind (arith, h);
  keeps = grind (arith, h);
}

module _ (base : Base) (ruled : IsRuled base) (one : HasOneForm base) where
  width : IsWidth base.width
  width = ruled.is_width

  -- the own form of some bytes
  abbrev own_in : List Positioned → List ℕ
  own_in ks = own_form base (bytes_in ks)

  own_in-append : (ks js : List Positioned) → own_in (ks ++ js) ≡ own_in ks ++ own_in js
  own_in-append ks js = simp map-append

  module _ (character : ℕ) (some : base.padding ≡ Some character) where
    abbrev size : ℕ
    size = group_symbols base.width

    abbrev filled : List ℕ → List ℕ
    filled bytes = filled_with character size (plain_text base bytes)

    joins : base.concatenates ≡ false
    joins = sym (ap (λ o. is_some o && base.concatenates) some) ∙ one.alone

    -- a group that has padding is final
    final : (group : List Positioned) (piece : List ℕ)
        → (means : GroupMeans base (meanings_in base group) piece) → 0 < means.padding
        → is_final base group ≡ true
    final group piece means some =
        let pads : nat_lt 0 means.padding ≡ true = grind (arith, nat_tests) in
        rw (joins, GroupMeans-padding base (meanings_in base group) piece means, pads)

    module _ (group : List Positioned) (piece : List ℕ)
        (means : GroupMeans base (meanings_in base group) piece) where
      abbrev text : List ℕ
      text = bytes_in group

      abbrev front : List ℕ
      front = take (length means.symbols) text

      abbrev back : List ℕ
      back = drop (length means.symbols) text

      abbrev own_or_same : ℕ → ℕ
      own_or_same byte = unwrap_or (own_character base (meaning base byte)) byte

      whole : length means.symbols + means.padding ≡ size
      whole = GroupMeans-length base (meanings_in base group) piece means (ap is_some some)

      front_len : length front ≡ length means.symbols
      front_len =
          length-take-le (length means.symbols) text
          (omega (arith, whole, means.is_whole (ap is_some some), length-map text (meaning base)))

      parts : (map (meaning base) front ≡ means.symbols)
          × (map (meaning base) back ≡ replicate means.padding Padding)
      parts =
          parts_same (map (meaning base) front) (map (meaning base) back) means.symbols
          (replicate means.padding Padding)
          (sym (map-append (meaning base) front back)
          ∙ ap (map (meaning base)) (take-append-drop (length means.symbols) text)
          ∙ means.is_group)
          (length-map front (meaning base) ∙ front_len)

      symbols_are : own_form base front ≡ plain_text base piece
      symbols_are =
          plain_is base ruled one.checks front piece (rw parts.0 means.means)

      count : length (plain_text base piece) ≡ length means.symbols
      count = sym (ap length symbols_are) ∙ length-map front own_or_same ∙ front_len

      group_is : own_in group ≡ plain_text base piece ++ replicate means.padding character
      group_is =
          ap (own_form base) (sym (take-append-drop (length means.symbols) text))
          ∙ map-append own_or_same front back
          ∙ (λ i. symbols_are i
          ++ paddings_are base ruled back means.padding character some parts.1 i)

      -- if it has padding, it is the text of the last bytes
      last : own_in group ≡ filled piece
      last =
          let total : (length (plain_text base piece) + means.padding) % size ≡ 0 =
          rw (count, whole) (mod_self size) in
          let lack = missing-is size (length (plain_text base piece)) means.padding
          (omega (arith, whole, means.is_begun)) total in
          rw (group_is, lack)

      -- and otherwise that of bytes which others may follow
      first : means.padding ≡ 0 → (more : List ℕ)
          → own_in group ++ filled more ≡ filled (piece ++ more)
      first none more =
          let text = plain_text base piece in
          let all : length means.symbols ≡ size = omega (arith, whole, none) in
          let full : base.width * length means.symbols ≡ 8 * group_bytes base.width =
          rw all (group_bits base.width width) in
          let bits : 8 * length piece ≡ base.width * size =
          let same = PlainMeans-count base width means.symbols piece means.means in
          let short = means.means.rest_is_short in
          omega (arith, same, full, group_bits base.width width, short, width.few) in
          let exact : 8 * length piece % base.width ≡ 0 =
          rw (bits, mul_comm base.width size) (mul-mod_left size base.width) in
          rw (group_is, none, append-nil text, plain_text-join base piece more width.some exact)
          (sym (filled-join character size text (plain_text base more)
          (group_symbols-pos base.width width)
          (ap (λ n. n % size) (count ∙ all) ∙ mod_self size)))

    filled_none : (bytes : List ℕ) → bytes ≡ [] → filled bytes ≡ []
    filled_none bytes none =
        rw (none, plain_text-nil base width.some)
        (filled-whole character size [] (mod-eq_of_lt (group_symbols-pos base.width width)))

    groups_are : (gs : List (List Positioned)) (bytes : List ℕ)
        → GroupsMean base (map (meanings_in base) gs) bytes
        → own_in (flat_map (λ g. g) gs) ≡ filled bytes
    groups_are [] bytes means = sym (filled_none bytes means)
    groups_are (group ∷ gs) bytes means =
        own_in-append group (flat_map (λ g. g) gs)
        ∙ ap (λ l. own_in group ++ l) (groups_are gs means.1 means.5)
        ∙ by means.3.padding refl ∙ ap filled (sym means.2) where
          by : (padding : ℕ) → means.3.padding ≡ padding
              → own_in group ++ filled means.1 ≡ filled (means.0 ++ means.1)
          by zero is = first group means.0 means.3 is means.1
          by (suc padding) is =
              let ends = means.4 (final group means.0 means.3 (omega (arith, is))) in
              let none : means.1 ≡ [] = subst (λ l. GroupsMean base l means.1) ends means.5 in
              rw (last group means.0 means.3, none, filled_none [] refl)
              (append-nil (filled means.0) ∙ ap filled (sym (append-nil means.0)))

  own_text : (text bytes : List ℕ) → Means base text bytes
      → own_form base text ≡ text_of base bytes
  own_text text bytes means =
      ap (own_form base) (sym (bytes-positioned_from 0 text)) ∙ ap own_in (sym all_kept)
      ∙ by base.padding refl
      ∙ sym (text_of-unwrapped base bytes (no_lines-plain base ruled one.keeps)) where
        all_kept : kept base text ≡ positioned text
        all_kept = filter-plain base one.keeps (positioned text)

        by : (o : Option ℕ) → base.padding ≡ o
            → own_in (kept base text)
            ≡ with_padding o (group_symbols base.width) (plain_text base bytes)
        by None is =
            plain_is base ruled one.checks (bytes_in (kept base text)) bytes
            ((unpadded-Means base width (ap is_some is) text bytes).0 means)
        by (Some character) is =
            ap own_in (sym (flat_map-runs (group_symbols base.width) (kept base text)
            (group_symbols-pos base.width width)))
            ∙ groups_are character is (runs (group_symbols base.width) (kept base text)) bytes
            means

module _ (base : Base) (ruled : IsRuled base) where
  -- the law of canonical bases
  pub Means-text_of_only : has_one_text base ≡ true → (text bytes : List ℕ)
      → Means base text bytes → text ≡ text_of base bytes
  Means-text_of_only h text bytes means =
      let parts = and_parts (has_one_own_form base) (length (translated_bytes base) == 0) h in
      let none = nil_from_length (translated_bytes base)
      (eqb-true (length (translated_bytes base)) 0 parts.1) in
      sym (own_form-itself base ruled none text)
      ∙ own_text base ruled (parts_of base parts.0) text bytes means

  -- the law of own forms of texts
  pub own_form-text : has_one_own_form base ≡ true → (text bytes : List ℕ)
      → Means base text bytes → own_form base text ≡ text_of base bytes
  own_form-text h = own_text base ruled (parts_of base h)

  -- and of two
  pub own_forms : has_one_own_form base ≡ true → (text other bytes others : List ℕ)
      → Means base text bytes → Means base other others
      → (bytes ≡ others) ↔ (own_form base text ≡ own_form base other)
  own_forms h text other bytes others means more =
      let form = parts_of base h in
      let own_bytes : (one its : List ℕ) → Means base one its
      → sound_bytes base (own_form base one) ≡ its =
      λ one its is. sound_bytes-Means base ruled.is_width (own_form base one) its
      (Means-alike_in base base refl ruled.is_width one (own_form base one)
      (own_form-meaning base ruled one) its is) in (
        (λ same.
            own_text base ruled form text bytes means ∙ ap (text_of base) same
            ∙ sym (own_text base ruled form other others more)),
        (λ same.
            sym (own_bytes text bytes means) ∙ ap (sound_bytes base) same
            ∙ own_bytes other others more),
      )

  -- and there are no lines
  pub no_lines-only : has_one_text base ≡ true → base.wrapping ≡ None
  no_lines-only h =
      let parts = and_parts (has_one_own_form base) (length (translated_bytes base) == 0) h in
      no_lines-plain base ruled (parts_of base parts.0).keeps
