-- What follows about the groups of a text from the number of bytes that it means.
use Rattle.std.proofs.Common.{◌≡◌, ℕ, ◌+◌, ◌*◌, ◌%◌, ◌<◌, ◌==◌, Bool, true, false, not, ◌&&◌, List, [], ◌∷◌, length, Option, Some, None, is_some, refl, sym, ap, ◌∙◌, subst, arith, length-append, map}
use Rattle.std.proofs.Math.Nat.{add-mod_left, zero-mod}
use Rattle.std.proofs.lemmas.Bool.{false≢true}
use Rattle.std.proofs.lemmas.Bool.Decides.{nat_tests}
use Rattle.std.specs.List.{list_any}
use Rattle.data_encoding_meaning.proofs.grammar.PositionLemmas.{length-meanings}
use Rattle.data_encoding_meaning.specs.declared.encoding.Character.{Character}
use Rattle.data_encoding_meaning.specs.text.Base.{Base, IsWidth, group_bytes, group_symbols, is_padded, is_padding}
use Rattle.data_encoding_meaning.specs.text.Grammar.{GroupMeans, GroupsMean, Means, Positioned, groups, is_final, kept, meanings_in}
use Rattle.data_encoding_meaning.proofs.decoding.WholeLengthLemmas.{joins-unpadded, none_final-joined}
use Rattle.data_encoding_meaning.proofs.digits.WidthLemmas.{by_width}
use Rattle.data_encoding_meaning.proofs.grammar.GroupLemmas.{GroupMeans-length, GroupMeans-padding}
use Rattle.data_encoding_meaning.proofs.grammar.JoinLemmas.{whole-padded}
use Rattle.data_encoding_meaning.proofs.grammar.UnpaddedGrammarLemmas.{unpadded-Means}
use Rattle.data_encoding_meaning.proofs.grammar.UnpaddedGroupLemmas.{PlainMeans-count}
use Rattle.data_encoding_meaning.proofs.judgement.RuleLemmas.{IsRuled}

-- Symbols and their bytes, with fewer bits left than a symbol has: if the bytes are whole groups,
-- so are the symbols; a group of symbols is one of bytes, and fewer symbols are not.
record HasSizes (width : ℕ) : Type 0 where
  whole : (symbols bytes rest : ℕ) → width * symbols ≡ 8 * bytes + rest → rest < width
      → bytes % group_bytes width ≡ 0 → symbols % group_symbols width ≡ 0
  full : (symbols bytes rest : ℕ) → width * symbols ≡ 8 * bytes + rest → rest < width
      → symbols ≡ group_symbols width → bytes ≡ group_bytes width
  part : (symbols bytes rest : ℕ) → width * symbols ≡ 8 * bytes + rest → rest < width
      → 0 < symbols → symbols < group_symbols width → 0 < bytes % group_bytes width

has_sizes : (width : ℕ) → IsWidth width → HasSizes width
has_sizes =
    by_width HasSizes (omega arith) (omega arith) (omega arith) (omega arith) (omega arith)
    (omega arith)

module _ (base : Base) where
  module _ (width : IsWidth base.width) (padded : is_padded base ≡ true) where
    abbrev size : ℕ
    size = group_bytes base.width

    group_size : (group : List Character) (bytes : List ℕ) → GroupMeans base group bytes
        → (list_any is_padding group ≡ false → length bytes ≡ size)
        × (list_any is_padding group ≡ true → 0 < length bytes % size)
    group_size group bytes means =
        let len = GroupMeans-length base group bytes means padded in
        let sizes = has_sizes base.width width in
        let bits = PlainMeans-count base width means.symbols bytes means.means in
        let full = sizes.full _ _ _ bits means.means.rest_is_short in
        let part = sizes.part _ _ _ bits means.means.rest_is_short means.is_begun in
        rw (GroupMeans-padding base group bytes means)
        (λ none. grind (arith, nat_tests, len, full), λ some. grind (arith, nat_tests, len, part))

    -- If texts may not be concatenated, only the last group has padding.
    module _ (apart : base.concatenates ≡ false) where
      groups_end : (gs : List (List Positioned)) (bytes : List ℕ)
          → GroupsMean base (map (meanings_in base) gs) bytes
          → list_any (is_final base) gs ≡ not (length bytes % size == 0)
      groups_end [] bytes h =
          sym (ap (λ n. not (n == 0)) (ap (λ l. length l % size) h ∙ zero-mod size))
      groups_end (g ∷ gs) bytes h =
          by (list_any is_padding (meanings_in base g)) refl (groups_end gs h.1 h.5) where
            len : length bytes ≡ length h.0 + length h.1
            len = ap length h.2 ∙ length-append h.0 h.1

            by : (b : Bool) → list_any is_padding (meanings_in base g) ≡ b
                → list_any (is_final base) gs ≡ not (length h.1 % size == 0)
                → list_any (is_final base) (g ∷ gs) ≡ not (length bytes % size == 0)
            by false none others =
                let full = (group_size (meanings_in base g) h.0 h.3).0 none in
                rw (others, apart, none, len, full)
                (ap (λ n. not (n == 0)) (sym (add-mod_left size (length h.1))))
            by true some others =
                let last = h.4 (ap (λ b. not b && list_any is_padding (meanings_in base g)) apart
                ∙ some) in
                let nothing = subst (λ l. GroupsMean base l h.1) last h.5 in
                let all : length bytes ≡ length h.0 = omega (arith, len, ap length nothing) in
                let part = (group_size (meanings_in base g) h.0 h.3).1 some in
                rw (apart, some, all) (grind (arith, nat_tests, part))

module _ (base : Base) (ruled : IsRuled base) (text bytes : List ℕ) where
  -- whether a group is final
  pub ends-Means : Means base text bytes
      → list_any (is_final base) (groups base text)
      ≡ (not base.concatenates && not (length bytes % group_bytes base.width == 0))
  ends-Means means = by base.concatenates base.padding refl refl where
    by : (b : Bool) (o : Option ℕ) → base.concatenates ≡ b → base.padding ≡ o
        → list_any (is_final base) (groups base text)
        ≡ (not b && not (length bytes % group_bytes base.width == 0))
    by true o joins is = none_final-joined base joins (groups base text)
    by false None apart is = absurd (false≢true (sym apart ∙ joins-unpadded base ruled is))
    by false (Some character) apart is =
        groups_end base ruled.is_width (ap is_some is) apart (groups base text) bytes means

  -- and whether the groups are whole
  pub whole-Means : Means base text bytes → length bytes % group_bytes base.width ≡ 0
      → length (kept base text) % group_symbols base.width ≡ 0
  whole-Means means exact = by base.padding refl where
    by : (o : Option ℕ) → base.padding ≡ o
        → length (kept base text) % group_symbols base.width ≡ 0
    by None is =
        let plain = (unpadded-Means base ruled.is_width (ap is_some is) text bytes).0 means in
        rw (← length-meanings base (kept base text))
        ((has_sizes base.width ruled.is_width).whole _ _ _
        (PlainMeans-count base ruled.is_width (meanings_in base (kept base text)) bytes plain)
        plain.rest_is_short exact)
    by (Some character) is = whole-padded base ruled text [] bytes [] (ap is_some is) means
