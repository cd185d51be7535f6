-- A text means something if and only if it has no fault, and then one list of bytes.
use Rattle.std.proofs.Common.{◌≡◌, ℕ, ◌*◌, ◌<◌, ◌≤◌, Bool, true, false, List, [], ◌∷◌, length, Some, None, IsOkAnd, refl, sym, ap, arith, length-append, map}
use Rattle.std.proofs.Math.Nat.{mul-mod_left, mul-le-mul_right, mul-le-mul_left}
use Rattle.std.specs.Prelude.{flat_map}
use Rattle.std.specs.List.{AllByRecursion}
use Rattle.std.proofs.lemmas.Nat.{le-div}
use Rattle.data_encoding_meaning.specs.declared.encoding.Character.{Character}
use Rattle.data_encoding_meaning.specs.declared.error.DecodeError.{DecodeError}
use Rattle.data_encoding_meaning.specs.text.Base.{Base, is_padded, group_symbols, group_bytes, IsWidth}
use Rattle.data_encoding_meaning.specs.text.Grammar.{Positioned, kept, groups, GroupMeans, GroupsMean, Means, PlainMeans, is_final, meanings_in}
use Rattle.data_encoding_meaning.specs.text.Lengths.{decoded_len, is_valid_length, length_fault, most_bytes}
use Rattle.data_encoding_meaning.specs.decoding.Fault.{bytes_of_group, fault_of, first_fault, sound_bytes, located, AreSound}
use Rattle.data_encoding_meaning.proofs.digits.WidthLemmas.{group_bits, group_symbols-pos}
use Rattle.data_encoding_meaning.proofs.lists.RunLemmas.{few_runs, flat_map-runs}
use Rattle.data_encoding_meaning.proofs.grammar.UnpaddedGroupLemmas.{PlainMeans-count, PlainMeans-valid}
use Rattle.data_encoding_meaning.proofs.grammar.UnpaddedGrammarLemmas.{unpadded-Means}
use Rattle.data_encoding_meaning.proofs.grammar.GroupLemmas.{GroupMeans-length, GroupMeans-sound, GroupMeans-no_fault, GroupMeans-bytes}
use Rattle.data_encoding_meaning.proofs.grammar.PositionLemmas.{length-kept, length-kept_plain, length-meanings}
use Rattle.data_encoding_meaning.proofs.grammar.LengthLemmas.{length_fault-none, whole-length}
use Rattle.data_encoding_meaning.proofs.grammar.SoundLemmas.{AreSound-none, ends_after, fault_after-none, neither_fault, first-none, sound-all}

-- none follows a final one
none_follow : (base : Base) (ended : Bool) (gs : List (List Positioned))
    → AreSound base true gs ended → gs ≡ []
none_follow base ended [] h = refl
none_follow base ended (g ∷ gs) h = let never = fault_after-none base true g h.0 in cc

module _ (base : Base) (width : IsWidth base.width) where
  -- groups without a fault mean their bytes joined
  GroupsMean-sound : (begun ended : Bool) (gs : List (List Positioned))
      → AllByRecursion (λ g. (0 < length g) × (length g ≤ group_symbols base.width)) gs
      → AreSound base begun gs ended
      → GroupsMean base (map (meanings_in base) gs) (flat_map (bytes_of_group base) gs)
  GroupsMean-sound begun ended [] few h = refl
  GroupsMean-sound begun ended (g ∷ gs) few h = (
    bytes_of_group base g,
    flat_map (bytes_of_group base) gs,
    refl,
    GroupMeans-sound base width (meanings_in base g)
        (omega (arith, length-meanings base g)) (omega (arith, length-meanings base g))
        (fault_after-none base begun g h.0).1,
    (λ final. ap (map (meanings_in base)) (none_follow base ended gs (rw final at h.1))),
    GroupsMean-sound (is_final base g) ended gs few.1 h.1,
  )

  -- and groups that mean something have none, and mean no other bytes
  sound-GroupsMean : (begun : Bool) (gs : List (List Positioned)) (bytes : List ℕ)
      → (begun ≡ true → map (meanings_in base) gs ≡ [])
      → GroupsMean base (map (meanings_in base) gs) bytes
      → AreSound base begun gs (ends_after base begun gs)
      × (flat_map (bytes_of_group base) gs ≡ bytes)
  sound-GroupsMean begun [] bytes last h = (refl, sym h)
  sound-GroupsMean true (g ∷ gs) bytes last h = let never = last refl in absurd cc
  sound-GroupsMean false (g ∷ gs) bytes last h =
      let others = sound-GroupsMean (is_final base g) gs h.1 h.4 h.5 in (
        (ap (located g) (GroupMeans-no_fault base width (meanings_in base g) h.0 h.3), others.0),
        cc (GroupMeans-bytes base width (meanings_in base g) h.0 h.3, others.1),
      )

  -- If there is padding, they are whole, and each means at most the bytes of a whole group.
  module _ (padded : is_padded base ≡ true) where
    most-GroupMeans : (g : List Character) (bytes : List ℕ) → GroupMeans base g bytes
        → length bytes ≤ group_bytes base.width
    most-GroupMeans g bytes means =
        let count = PlainMeans-count base width means.symbols bytes means.means in
        let few : length means.symbols ≤ group_symbols base.width =
        omega (arith, GroupMeans-length base g bytes means padded) in
        omega (arith, count, mul-le-mul_left base.width few, group_bits base.width width)

    sizes-GroupsMean : (gs : List (List Positioned)) (bytes : List ℕ)
        → GroupsMean base (map (meanings_in base) gs) bytes
        → (length (flat_map (λ g. g) gs) ≡ length gs * group_symbols base.width)
        × (length bytes ≤ length gs * group_bytes base.width)
    sizes-GroupsMean [] bytes h = rw h (omega arith)
    sizes-GroupsMean (g ∷ gs) bytes h =
        let others = sizes-GroupsMean gs h.1 h.5 in
        let most = most-GroupMeans (meanings_in base g) h.0 h.3 in
        let whole = rw length-meanings at (h.3.is_whole padded) in
        rw (h.2, length-append g, length-append h.0) (omega arith)

  module _ (text : List ℕ) where
    -- a text with no fault means its bytes
    pub Means-no_fault : fault_of base text ≡ None → Means base text (sound_bytes base text)
    Means-no_fault h =
        let gs = groups base text in
        let none = neither_fault (length_fault base (length text)) (first_fault base gs) h in
        let sound = AreSound-none base false gs none.1 in
        rw (sound-all base false (ends_after base false gs) gs sound)
        (GroupsMean-sound false (ends_after base false gs) gs
        (few_runs (group_symbols base.width) (kept base text)
        (group_symbols-pos base.width width)) sound)

    module _ (bytes : List ℕ) (means : Means base text bytes) where
      abbrev meant : List Character
      meant = meanings_in base (kept base text)

      plain : is_padded base ≡ false → PlainMeans base meant bytes
      plain unpadded = (unpadded-Means base width unpadded text bytes).0 means

      pub length-groups : is_padded base ≡ true
          → length (kept base text) ≡ length (groups base text) * group_symbols base.width
      length-groups padded =
          rw (flat_map-runs (group_symbols base.width) (kept base text)
          (group_symbols-pos base.width width))
          at (sizes-GroupsMean padded (groups base text) bytes means).0

      pub no_length_fault-Means : length_fault base (length text) ≡ None
      no_length_fault-Means =
          length_fault-none base (length text) (λ none. by (is_padded base) refl
          (length-kept_plain base text none)) where
            by : (b : Bool) → is_padded base ≡ b → length (kept base text) ≡ length text
                → is_valid_length base (length text) ≡ true
            by true is same =
                whole-length base width (length text) (rw (← same, length-groups is)
                (mul-mod_left (length (groups base text)) (group_symbols base.width)))
            by false is same =
                rw is (rw (length-meanings base (kept base text), same)
                at (PlainMeans-valid base width meant bytes (plain is)))

      sound : AreSound base false (groups base text) (ends_after base false (groups base text))
          × (flat_map (bytes_of_group base) (groups base text) ≡ bytes)
      sound = sound-GroupsMean false (groups base text) bytes (λ h. cc) means

      -- a text that means something has no fault
      pub no_fault-Means : fault_of base text ≡ None
      no_fault-Means =
          let gs = groups base text in
          rw no_length_fault-Means (first-none base false (ends_after base false gs) gs sound.0)

      -- nor has one with a fault any meaning
      pub faulty-Means : (error : DecodeError) → fault_of base text ≡ Some error → ⊥
      faulty-Means error h = let none = no_fault-Means in cc

      -- a text means one list of bytes at most
      pub sound_bytes-Means : sound_bytes base text ≡ bytes
      sound_bytes-Means =
          let gs = groups base text in
          rw (sound-all base false (ends_after base false gs) gs sound.0) sound.1

      -- a text means at most as many bytes as its length allows
      pub length-Means : length bytes ≤ most_bytes base (length text)
      length-Means = by (is_padded base) refl where
        by : (b : Bool) → is_padded base ≡ b → length bytes ≤ most_bytes base (length text)
        by true is =
            let count = length (groups base text) in
            let few = le-div count (length text) (group_symbols base.width)
            (group_symbols-pos base.width width)
            (omega (arith, length-groups is, length-kept base text)) in
            let most = mul-le-mul_right (group_bytes base.width) few in
            rw is (omega (arith, (sizes-GroupsMean is (groups base text) bytes means).1, most))
        by false is =
            let count = PlainMeans-count base width meant bytes (plain is) in
            let bits : base.width * length meant ≤ base.width * length text =
            mul-le-mul_left base.width
            (omega (arith, length-kept base text, length-meanings base (kept base text))) in
            rw is (omega (arith, count, bits))

      -- the length of a text that means something has no fault, and allows as many bytes
      pub decoded_len-Means : IsOkAnd (decoded_len base (length text)) (λ most. length bytes ≤ most)
      decoded_len-Means = rw no_length_fault-Means length-Means
