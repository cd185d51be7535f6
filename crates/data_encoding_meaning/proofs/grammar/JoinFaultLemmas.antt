-- The fault of a text that follows one that means bytes.
use Rattle.std.proofs.Common.{◌≡◌, ℕ, zero, suc, ◌+◌, ◌*◌, ◌/◌, ◌%◌, ◌<◌, ◌≤◌, Bool, true, false, List, [], ◌∷◌, ◌++◌, map, length, Option, refl, sym, ap, ◌∙◌, arith, length-append}
use Rattle.std.specs.Prelude.{flat_map}
use Rattle.std.specs.List.{AllByRecursion}
use Rattle.std.proofs.lemmas.Bool.Decides.{nat_tests}
use Rattle.data_encoding_meaning.specs.declared.error.DecodeError.{DecodeError}
use Rattle.data_encoding_meaning.specs.text.Base.{Base, IsWidth, ignores_some, group_symbols}
use Rattle.data_encoding_meaning.specs.text.Grammar.{Positioned, kept, groups, is_final, Means, kept_in, bytes_in, positioned_from}
use Rattle.data_encoding_meaning.specs.text.Lengths.{greatest_valid_count, is_valid_length, length_fault}
use Rattle.data_encoding_meaning.specs.decoding.Fault.{bytes_of_group, fault_after, fault_of, first_after, first_fault, or_else, position_of, sound_after, sound_bytes, group_fault, AreSound}
use Rattle.data_encoding_meaning.specs.laws.Laws.{MayBeFollowed, shifted}
use Rattle.data_encoding_meaning.proofs.digits.WidthLemmas.{group_symbols-pos}
use Rattle.data_encoding_meaning.proofs.grammar.GroupLemmas.{group_fault-inside, located-shifted}
use Rattle.data_encoding_meaning.proofs.grammar.JoinLemmas.{followed}
use Rattle.data_encoding_meaning.proofs.grammar.KeptLemmas.{kept_in-append}
use Rattle.data_encoding_meaning.proofs.grammar.MeaningLemmas.{no_fault-Means, sound_bytes-Means}
use Rattle.data_encoding_meaning.proofs.grammar.PositionLemmas.{length-kept_plain}
use Rattle.data_encoding_meaning.proofs.grammar.SoundLemmas.{AreSound-none, bytes-AreSound, ends_after, first-AreSound, neither_fault, sound-all}
use Rattle.data_encoding_meaning.proofs.lists.ListLemmas.{AllFail, map-filter}
use Rattle.data_encoding_meaning.proofs.lists.RunLemmas.{few_runs, runs-join, runs-map}
use Rattle.data_encoding_meaning.proofs.judgement.RuleLemmas.{IsRuled}
use Rattle.data_encoding_meaning.proofs.grammar.LengthLemmas.{widths}

-- the same bytes, with their positions increased by this many
abbrev pub moved : ℕ → List Positioned → List Positioned
moved count ks = map (λ k. record { position = count + k.position; byte = k.byte }) ks

bytes-moved : (count : ℕ) (ks : List Positioned) → bytes_in (moved count ks) ≡ bytes_in ks
bytes-moved count [] = refl
bytes-moved count (k ∷ ks) = ap (λ l. k.byte ∷ l) (bytes-moved count ks)

positioned-moved : (count start : ℕ) (part : List ℕ)
    → positioned_from (count + start) part ≡ moved count (positioned_from start part)
positioned-moved count start [] = refl
positioned-moved count start (byte ∷ part) =
    let next : count + start + 1 ≡ count + (start + 1) = omega arith in
    rw (next, positioned-moved count (start + 1) part)

position_of-moved : (count : ℕ) (ks : List Positioned) (index : ℕ) → index < length ks
    → position_of (moved count ks) index ≡ count + position_of ks index
position_of-moved count [] index h = absurd (omega (arith, h))
position_of-moved count (k ∷ ks) zero h = refl
position_of-moved count (k ∷ ks) (suc index) h = position_of-moved count ks index (omega (arith, h))

shifted-or_else : (count : ℕ) (o p : Option DecodeError)
    → or_else (shifted count o) (shifted count p) ≡ shifted count (or_else o p)
shifted-or_else count o p = grind arith

-- What follows whole groups is as valid as it is alone: its bits and the greatest valid count, and
-- the rest of a group and the whole groups.
is_after : (width : ℕ) → IsWidth width → (m n : ℕ) → m % group_symbols width ≡ 0
    → (width * (m + n) % 8 ≡ width * n % 8)
    × (greatest_valid_count width (m + n) ≡ m + greatest_valid_count width n)
    × ((m + n) % group_symbols width ≡ n % group_symbols width)
    × ((m + n) / group_symbols width * group_symbols width
    ≡ m + n / group_symbols width * group_symbols width)
is_after width is m n h = grind (arith, nat_tests, widths width is)

module _ (base : Base) (width : IsWidth base.width) where
  abbrev size : ℕ
  size = group_symbols base.width

  pub valid_after : (m n : ℕ) → m % size ≡ 0
      → is_valid_length base (m + n) ≡ is_valid_length base n
  valid_after m n h =
      grind (arith, is_after base.width width m n h)

  pub length_fault-after : (m n : ℕ) → (ignores_some base ≡ false → m % size ≡ 0)
      → length_fault base (m + n) ≡ shifted m (length_fault base n)
  length_fault-after m n whole =
      let is = λ (none : ignores_some base ≡ false). is_after base.width width m n (whole none) in
      grind (arith, is)

  -- the kept bytes of a piece at a later position
  pub kept_in-moved : (count start : ℕ) (part : List ℕ)
      → kept_in base (count + start) part ≡ moved count (kept_in base start part)
  kept_in-moved count start part =
      rw (positioned-moved count start part) (sym (map-filter _ _ (positioned_from start part)))

  abbrev pub AreFew : List (List Positioned) → Type 0
  AreFew gs = AllByRecursion (λ (g : List Positioned). (0 < length g) × (length g ≤ size)) gs

  fault_after-moved : (count : ℕ) (ended : Bool) (group : List Positioned) → 0 < length group
      → length group ≤ size
      → fault_after ended base (moved count group) ≡ shifted count (fault_after ended base group)
  fault_after-moved count true group some few = rw (position_of-moved count group 0 some)
  fault_after-moved count false group some few =
      rw (bytes-moved count group)
      (located-shifted group (moved count group) count (group_fault base (bytes_in group))
      (group_fault-inside base width group some few) (position_of-moved count group))

  pub final-moved : (count : ℕ) (group : List Positioned)
      → is_final base (moved count group) ≡ is_final base group
  final-moved count group = rw (bytes-moved count group)

  pub first-moved : (count : ℕ) (ended : Bool) (gs : List (List Positioned)) → AreFew gs
      → first_after ended base (map (moved count) gs) ≡ shifted count (first_after ended base gs)
  first-moved count ended [] few = refl
  first-moved count ended (g ∷ gs) few =
      rw (fault_after-moved count ended g few.0.0 few.0.1, final-moved count g)
      (rw (first-moved count (is_final base g) gs few.1) (shifted-or_else count _ _))

  abbrev pub bytes_before : Bool → List (List Positioned) → List ℕ
  bytes_before ended gs = flat_map (bytes_of_group base) (sound_after ended base gs)

  pub sound-moved : (count : ℕ) (ended : Bool) (gs : List (List Positioned)) → AreFew gs
      → bytes_before ended (map (moved count) gs) ≡ bytes_before ended gs
  sound-moved count ended [] few = refl
  sound-moved count ended (g ∷ gs) few =
      let others = sound-moved count (is_final base g) gs few.1 in
      rw (fault_after-moved count ended g few.0.0 few.0.1, final-moved count g)
      (grind (arith, bytes-moved count g, others))

  not_ended : (begun : Bool) (gs : List (List Positioned)) → begun ≡ false
      → AllFail (is_final base) gs → ends_after base begun gs ≡ false
  not_ended begun [] h none = h
  not_ended begun (g ∷ gs) h none = not_ended (is_final base g) gs none.0 none.1

-- a text that follows whole groups
module _ (base : Base) (width : IsWidth base.width) (text after : List ℕ)
    (whole : length (kept base text) % group_symbols base.width ≡ 0) where
  abbrev count : ℕ
  count = length text

  abbrev pub others : List (List Positioned)
  others = map (moved count) (groups base after)

  few : AreFew base width (groups base after)
  few = few_runs (group_symbols base.width) (kept base after) (group_symbols-pos base.width width)

  groups_joined : groups base (text ++ after) ≡ groups base text ++ others
  groups_joined =
      let pos = group_symbols-pos base.width width in
      let size = group_symbols base.width in
      let part : kept_in base (0 + count) after ≡ moved count (kept base after) =
      ap (λ n. kept_in base n after) (omega arith) ∙ kept_in-moved base width count 0 after in
      rw (kept_in-append base 0 text after, runs-join size (kept base text) _ pos whole)
      (rw (part, runs-map size _ (kept base after) pos))

  module _ (ended : Bool) (sound : AreSound base false (groups base text) ended) where
    -- its fault, with the length of the first text added
    pub fault-after_whole : fault_of base (text ++ after)
        ≡ shifted count (or_else (length_fault base (length after))
        (first_after ended base (groups base after)))
    fault-after_whole =
        let lengths = length_fault-after base width count (length after)
        (λ none. rw (← (length-kept_plain base text none)) whole) in
        rw (
          length-append text after,
          lengths,
          groups_joined,
          first-AreSound base false ended (groups base text) others sound,
          first-moved base width count ended (groups base after) few,
        )
        (shifted-or_else count _ _)

    -- and its bytes
    pub bytes-after_whole : sound_bytes base (text ++ after)
        ≡ flat_map (bytes_of_group base) (groups base text)
        ++ bytes_before base width ended (groups base after)
    bytes-after_whole =
        rw (groups_joined, bytes-AreSound base false ended (groups base text) others sound)
        (rw (sound-moved base width count ended (groups base after) few))

module _ (base : Base) (ruled : IsRuled base) (text after bytes : List ℕ)
    (follows : MayBeFollowed base text) (means : Means base text bytes) where
  is_width : IsWidth base.width
  is_width = ruled.is_width

  whole : (length (kept base text) % group_symbols base.width ≡ 0)
      × AllFail (is_final base) (groups base text)
  whole = followed base ruled text after bytes bytes follows means

  sound : AreSound base false (groups base text) false
  sound =
      let none = neither_fault (length_fault base (length text))
      (first_fault base (groups base text)) (no_fault-Means base is_width text bytes means) in
      rw (not_ended base is_width false (groups base text) refl whole.1)
      at (AreSound-none base false (groups base text) none.1)

  pub fault-join : fault_of base (text ++ after) ≡ shifted (length text) (fault_of base after)
  fault-join = fault-after_whole base is_width text after whole.0 false sound

  pub sound_bytes-join : sound_bytes base (text ++ after) ≡ bytes ++ sound_bytes base after
  sound_bytes-join =
      rw (bytes-after_whole base is_width text after whole.0 false sound)
      (rw (← (sound-all base false false (groups base text) sound))
      (rw (sound_bytes-Means base is_width text bytes means)))
