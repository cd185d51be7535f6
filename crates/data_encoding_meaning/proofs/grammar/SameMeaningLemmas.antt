-- Texts whose bytes mean the same one by one, in bases that judge alike, mean the same, and have
-- the same fault.
use Rattle.std.proofs.Common.{◌≡◌, ℕ, ◌+◌, ◌*◌, ◌/◌, ◌%◌, ◌==◌, Bool, false, not, ◌&&◌, cond, List, [], ◌∷◌, length, map, Option, Some, None, refl, sym, ap, ◌∙◌, subst}
use Rattle.std.proofs.lemmas.List.{length-map}
use Rattle.std.proofs.Math.ListN.{get_or-map}
use Rattle.std.specs.List.{enumerate_from, filter}
use Rattle.data_encoding_meaning.specs.declared.error.GroupFault.{GroupFault}
use Rattle.data_encoding_meaning.specs.declared.encoding.Character.{Character}
use Rattle.data_encoding_meaning.specs.declared.error.DecodeKind.{DecodeKind}
use Rattle.data_encoding_meaning.specs.declared.error.DecodeKind.TheVariants.{Length as LengthFault, Padding as PaddingFault}
use Rattle.data_encoding_meaning.specs.text.Base.{Base, IsWidth, meaning, is_ignored, is_padded, ignores_some, group_symbols}
use Rattle.data_encoding_meaning.specs.text.Bits.{runs}
use Rattle.data_encoding_meaning.specs.text.Grammar.{GroupsMean, PlainMeans, Positioned, Means, ends_text, groups, is_final, kept, kept_in, meanings_in, positioned_from}
use Rattle.data_encoding_meaning.specs.text.Lengths.{greatest_valid_count, is_valid_count, length_fault}
use Rattle.data_encoding_meaning.specs.decoding.Fault.{character_fault, count_before_padding, fault_after, fault_at, fault_of, first_after, located, or_else, padded_fault_at, plain_fault}
use Rattle.data_encoding_meaning.proofs.digits.WidthLemmas.{group_symbols-pos}
use Rattle.data_encoding_meaning.proofs.lists.EachLemmas.{map-twice}
use Rattle.data_encoding_meaning.proofs.grammar.PositionLemmas.{runs-meanings}
use Rattle.data_encoding_meaning.proofs.lists.ListLemmas.{map-filter}
use Rattle.data_encoding_meaning.proofs.lists.RunLemmas.{runs-map}

-- Members with the same positions have their faults there.
module _ (ks js : List Positioned)
    (stand : map (λ (k : Positioned). k.position) ks ≡ map (λ (k : Positioned). k.position) js)
  where
    fault_at-alike : (kind : DecodeKind) (index : ℕ)
        → fault_at kind ks index ≡ fault_at kind js index
    fault_at-alike kind index =
        let first : Positioned = record { position = 0; byte = 0 } in
        let place : Positioned → ℕ = λ k. k.position in
        cc (get_or-map place ks index first, get_or-map place js index first)

    located-alike : (o : Option GroupFault) → located ks o ≡ located js o
    located-alike None = refl
    located-alike (Some fault) = fault_at-alike fault.kind fault.index

-- the position of a byte, and what the byte means
abbrev seen : Base → Positioned → ℕ × Character
seen base k = (k.position, meaning base k.byte)

abbrev seen_in : Base → List Positioned → List (ℕ × Character)
seen_in base ks = map (seen base) ks

seen-positioned : (base : Base) (start : ℕ) (text : List ℕ)
    → seen_in base (positioned_from start text) ≡ enumerate_from start (map (meaning base) text)
seen-positioned base start [] = refl
seen-positioned base start (byte ∷ text) = rw (seen-positioned base (start + 1) text)

-- Bases that judge what bytes mean alike: `like`, with these fields of the base.
module _ (base like : Base) (padded : is_padded base ≡ is_padded like) where
  abbrev other : Base
  other = record like {
    width = base.width;
    order = base.order;
    checks_trailing_bits = base.checks_trailing_bits;
    concatenates = base.concatenates;
  }

  of-seen : {X : Type 0} (f : ℕ × Character → X) (ks js : List Positioned)
      → seen_in base ks ≡ seen_in other js
      → map (λ k. f (seen base k)) ks ≡ map (λ k. f (seen other k)) js
  of-seen f ks js same =
      sym (map-twice f (seen base) ks) ∙ ap (map f) same ∙ map-twice f (seen other) js

  meanings-seen : (ks js : List Positioned) → seen_in base ks ≡ seen_in other js
      → meanings_in base ks ≡ meanings_in other js
  meanings-seen ks js same =
      let byte_of : Positioned → ℕ = λ k. k.byte in
      rw (map-twice (meaning base) byte_of ks, map-twice (meaning other) byte_of js)
      (of-seen (λ p. p.1) ks js same)

  -- bytes that mean the same are kept at the same positions
  kept_in-seen : (start : ℕ) (text another : List ℕ)
      → map (meaning base) text ≡ map (meaning other) another
      → seen_in base (kept_in base start text) ≡ seen_in other (kept_in other start another)
  kept_in-seen start text another same =
      let keeps : ℕ × Character → Bool = λ s. not (is_ignored s.1) in
      map-filter (seen base) keeps (positioned_from start text)
      ∙ ap (filter keeps)
      (seen-positioned base start text ∙ ap (enumerate_from start) same
      ∙ sym (seen-positioned other start another))
      ∙ sym (map-filter (seen other) keeps (positioned_from start another))

  character_fault-alike : (group : List Character)
      → character_fault base group ≡ character_fault other group
  character_fault-alike group =
      ap (λ b. cond b (padded_fault_at base group (count_before_padding group))
      (plain_fault base group)) padded

  fault_after-seen : (ended : Bool) (ks js : List Positioned) → seen_in base ks ≡ seen_in other js
      → fault_after ended base ks ≡ fault_after ended other js
  fault_after-seen ended ks js same =
      let stand = of-seen (λ p. p.0) ks js same in
      rw (fault_at-alike ks js stand PaddingFault 0, located-alike ks js stand _)
      (ap (λ o. cond ended (fault_at PaddingFault js 0) (located js o))
      (ap (character_fault base) (meanings-seen ks js same)
      ∙ character_fault-alike (meanings_in other js)))

  -- the first faulty group has the same fault
  first_after-seen : (ended : Bool) (gs hs : List (List Positioned))
      → map (seen_in base) gs ≡ map (seen_in other) hs
      → first_after ended base gs ≡ first_after ended other hs
  first_after-seen ended [] [] same = refl
  first_after-seen ended [] (js ∷ hs) same = cc
  first_after-seen ended (ks ∷ gs) [] same = cc
  first_after-seen ended (ks ∷ gs) (js ∷ hs) same =
      let here : seen_in base ks ≡ seen_in other js = cc in
      let others : map (seen_in base) gs ≡ map (seen_in other) hs = cc in
      let final : is_final base ks ≡ is_final other js =
      ap (ends_text base) (meanings-seen ks js here) in
      (λ i. or_else (fault_after-seen ended ks js here i)
      (first_after (final i) base gs))
      ∙ ap (or_else (fault_after ended other js))
      (first_after-seen (is_final other js) gs hs others)

  -- what symbols mean is decided by the fields that are equal
  plain-alike : (group : List Character) (bytes : List ℕ) → PlainMeans base group bytes
      → PlainMeans other group bytes
  plain-alike group bytes means = record {
    values = means.values;
    rest = means.rest;
    are_symbols = means.are_symbols;
    same_bits = means.same_bits;
    rest_is_short = means.rest_is_short;
    rest_is_zero = means.rest_is_zero;
    are_bytes = means.are_bytes;
  }

  groups-alike : (gs : List (List Character)) (bytes : List ℕ) → GroupsMean base gs bytes
      → GroupsMean other gs bytes
  groups-alike [] bytes none = none
  groups-alike (group ∷ gs) bytes means =
      let here = means.3 in (
        means.0,
        means.1,
        means.2,
        record {
          symbols = here.symbols;
          padding = here.padding;
          is_group = here.is_group;
          is_whole = λ h. here.is_whole (padded ∙ h);
          is_plain = λ h. here.is_plain (padded ∙ h);
          is_begun = here.is_begun;
          means = plain-alike here.symbols means.0 here.means;
        },
        means.4,
        groups-alike gs means.1 means.5,
      )

  length_fault-alike : ignores_some base ≡ ignores_some like → (len : ℕ)
      → length_fault base len ≡ length_fault other len
  length_fault-alike ignores len =
      let size = group_symbols base.width in
      λ i. cond
      (not (ignores i) && not (cond (padded i) (len % size == 0) (is_valid_count base.width len)))
      (Some (record {
        position = cond (padded i) (len / size * size) (greatest_valid_count base.width len);
        kind = LengthFault;
      })) None

  module _ (width : IsWidth base.width) (text another : List ℕ)
      (same : map (meaning base) text ≡ map (meaning other) another) where
    groups-seen : map (seen_in base) (groups base text) ≡ map (seen_in other) (groups other another)
    groups-seen =
        let size = group_symbols base.width in
        let some = group_symbols-pos base.width width in
        cc (
          runs-map size (seen base) (kept base text) some,
          runs-map size (seen other) (kept other another) some,
          kept_in-seen 0 text another same,
        )

    pub fault_of-alike : ignores_some base ≡ ignores_some like
        → fault_of base text ≡ fault_of other another
    fault_of-alike ignores =
        let len : length text ≡ length another =
        sym (length-map text (meaning base)) ∙ ap length same
        ∙ length-map another (meaning other) in
        (λ i. or_else (length_fault base (len i)) (first_after false base (groups base text)))
        ∙ (λ i. or_else (length_fault-alike ignores (length another) i)
        (first_after-seen false (groups base text) (groups other another) groups-seen i))

    pub Means-alike_in : (bytes : List ℕ) → Means base text bytes → Means other another bytes
    Means-alike_in bytes means =
        let size = group_symbols base.width in
        let some = group_symbols-pos base.width width in
        let alike = sym (runs-meanings base size (kept base text) some)
        ∙ ap (runs size)
        (meanings-seen (kept base text) (kept other another) (kept_in-seen 0 text another same))
        ∙ runs-meanings other size (kept other another) some in
        subst (λ gs. GroupsMean other gs bytes) alike
        (groups-alike (map (meanings_in base) (groups base text)) bytes means)
