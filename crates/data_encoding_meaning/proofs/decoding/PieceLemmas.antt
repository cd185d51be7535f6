-- A text that is decoded piece by piece: what is kept of it, after each piece and at the end.
use Rattle.std.proofs.Common.{◌≡◌, ℕ, ◌+◌, ◌<◌, Bool, true, false, cond, ◌||◌, List, [], ◌∷◌, ◌++◌, length, Option, Some, None, is_some, refl, sym, ap, ◌∙◌, arith, length-append, append-nil, flat_map}
use Rattle.std.proofs.Math.Bool.{or-false}
use Rattle.std.specs.List.{list_any}
use Rattle.data_encoding_meaning.specs.declared.error.DecodeError.{DecodeError}
use Rattle.data_encoding_meaning.specs.text.Base.{Base, IsWidth, group_symbols}
use Rattle.data_encoding_meaning.specs.text.Bits.{runs}
use Rattle.data_encoding_meaning.specs.text.Grammar.{Positioned, groups, is_final, kept, kept_in}
use Rattle.data_encoding_meaning.specs.text.Lengths.{length_fault}
use Rattle.data_encoding_meaning.specs.decoding.Fault.{bytes_of_group, fault_after, fault_of, first_after, first_fault, or_else, sound_after, sound_bytes, AreSound}
use Rattle.data_encoding_meaning.specs.decoding.Pieces.{HasRead, held_fault, unfinished, whole_bytes, whole_groups}
use Rattle.data_encoding_meaning.proofs.digits.WidthLemmas.{group_symbols-pos}
use Rattle.data_encoding_meaning.proofs.grammar.KeptLemmas.{kept_in-append}
use Rattle.data_encoding_meaning.proofs.grammar.SoundLemmas.{AreSound-append, AreSound-none, bytes-AreSound, ends_after, fault_after-none, first-AreSound, sound-all}
use Rattle.data_encoding_meaning.proofs.lists.RunLemmas.{runs-nil, runs-short}
use Rattle.data_encoding_meaning.proofs.lists.WholeRunLemmas.{left, left_len, runs-left, whole_runs, whole_runs-join, whole_runs-one, whole_runs-short}

pub or_none : (o : Option DecodeError) → or_else o None ≡ o
or_none None = refl
or_none (Some error) = refl

-- a fault decides, or else what follows
decides : (o p q : Option DecodeError) (error : DecodeError) (g : List Positioned)
    (gs hs : List (List Positioned)) → (p ≡ Some error → (q ≡ Some error) × (hs ≡ gs))
    → or_else o p ≡ Some error
    → (or_else o q ≡ Some error) × (cond (is_some o) [] (g ∷ hs) ≡ cond (is_some o) [] (g ∷ gs))
decides o p q error g gs hs others h = grind arith

module _ (base : Base) where
  -- a faulty group decides, whatever follows
  stays : (begun : Bool) (error : DecodeError) (gs hs : List (List Positioned))
      → first_after begun base gs ≡ Some error
      → (first_after begun base (gs ++ hs) ≡ Some error)
      × (sound_after begun base (gs ++ hs) ≡ sound_after begun base gs)
  stays begun error [] hs h = cc
  stays begun error (g ∷ gs) hs h =
      decides (fault_after begun base g) _ _ error g _ _ (stays (is_final base g) error gs hs) h

  -- after sound groups the bytes of others follow
  pub bytes-after : (begun ended : Bool) (gs hs : List (List Positioned))
      → AreSound base begun gs ended
      → flat_map (bytes_of_group base) (sound_after begun base (gs ++ hs))
      ≡ flat_map (bytes_of_group base) (sound_after begun base gs)
      ++ flat_map (bytes_of_group base) (sound_after ended base hs)
  bytes-after begun ended gs hs h =
      rw (bytes-AreSound base begun ended gs hs h, sound-all base begun ended gs h)

  -- the bytes of a group alone, unless it has a fault
  bytes_unless : (b : Bool) (group : List Positioned)
      → flat_map (bytes_of_group base) (cond b [] (group ∷ []))
      ≡ cond b [] (bytes_of_group base group)
  bytes_unless true group = refl
  bytes_unless false group = append-nil (bytes_of_group base group)

  -- if none has a fault, only the last can be final
  pub any_final : (begun ended : Bool) (gs : List (List Positioned)) → AreSound base begun gs ended
      → (begun || list_any (is_final base) gs) ≡ ended
  any_final begun ended [] h = or-false begun ∙ h
  any_final begun ended (g ∷ gs) h =
      rw (fault_after-none base begun g h.0).0 (any_final (is_final base g) ended gs h.1)

module _ (base : Base) (width : IsWidth base.width) where
  abbrev size : ℕ
  size = group_symbols base.width

  pos : 0 < size
  pos = group_symbols-pos base.width width

  -- nothing was read yet
  pub HasRead-nothing : HasRead base [] 0 None [] false
  HasRead-nothing =
      let none = whole_runs-short {X = Positioned} size pos [] pos in
      record {
        counted = refl;
        first = ap (first_after false base) (sym none.0);
        holds = λ _. sym none.1;
        ends = λ _. ap (list_any (is_final base)) (sym none.0);
      }

  pub whole_bytes-nothing : whole_bytes base [] ≡ []
  whole_bytes-nothing = rw (whole_runs-short {X = Positioned} size pos [] pos).0

  module _ (text piece : List ℕ) where
    -- the bytes of the piece that are not ignored
    abbrev pub more : List Positioned
    more = kept_in base (length text) piece

    -- the whole groups before it, and those after them
    abbrev gs : List (List Positioned)
    gs = whole_groups base text

    abbrev hs : List (List Positioned)
    hs = whole_runs size (unfinished base text ++ more)

    -- more whole groups, and what is left after them
    pub joined : (whole_groups base (text ++ piece) ≡ gs ++ hs)
        × (unfinished base (text ++ piece) ≡ left size (unfinished base text ++ more))
    joined =
        let start : 0 + length text ≡ length text = omega arith in
        rw (kept_in-append base 0 text piece, start)
        (whole_runs-join size pos (kept base text) more)

    -- what was decoded stays
    pub whole_bytes-grows : (bytes : List ℕ)
        × (whole_bytes base (text ++ piece) ≡ whole_bytes base text ++ bytes)
    whole_bytes-grows = by (first_fault base gs) refl where
      by : (o : Option DecodeError) → first_fault base gs ≡ o
          → (bytes : List ℕ) × (whole_bytes base (text ++ piece) ≡ whole_bytes base text ++ bytes)
      by (Some error) h = (
        [],
        rw (joined.0, (stays base false error gs hs h).1) (sym (append-nil _)),
      )
      by None h =
          let ended = ends_after base false gs in (
            flat_map (bytes_of_group base) (sound_after ended base hs),
            rw (joined.0, bytes-after base false ended gs hs (AreSound-none base false gs h)),
          )

    module _ (len : ℕ) (held : List Positioned) (ended : Bool) where
      -- after a fault nothing changes
      pub HasRead-faulty : (error : DecodeError) (other : List Positioned) (end : Bool)
          → HasRead base text len (Some error) held ended
          → HasRead base (text ++ piece) (len + length piece) (Some error) other end
          × (whole_bytes base (text ++ piece) ≡ whole_bytes base text)
      HasRead-faulty error other end read =
          let same = stays base false error gs hs (sym read.first) in (
            record {
              counted = omega (arith, read.counted, length-append text piece);
              first = rw joined.0 (sym same.0);
              holds = λ h. cc;
              ends = λ h. cc;
            },
            rw (joined.0, same.1),
          )

      module _ (read : HasRead base text len None held ended) where
        pub sound : AreSound base false (whole_groups base text) ended
        sound =
            let none = AreSound-none base false gs (sym read.first) in
            rw (read.ends refl ∙ any_final base false (ends_after base false gs) gs none) none

        -- the bytes that were held, followed by those of the piece
        with_held : unfinished base text ++ more ≡ held ++ more
        with_held = ap (λ l. l ++ more) (sym (read.holds refl))

        -- a piece that completes no group is held
        pub HasRead-held : length (held ++ more) < size
            → HasRead base (text ++ piece) (len + length piece) None (held ++ more) ended
            × (whole_bytes base (text ++ piece) ≡ whole_bytes base text)
        HasRead-held few =
            let short = whole_runs-short size pos (held ++ more) few in
            let same : whole_groups base (text ++ piece) ≡ gs =
            rw (joined.0, with_held, short.0) (append-nil _) in (
              record {
                counted = omega (arith, read.counted, length-append text piece);
                first = rw same read.first;
                holds = λ _. rw (joined.1, with_held, short.1);
                ends = λ h. rw same (read.ends h);
              },
              rw same,
            )

        -- and one that completes a group has it judged, and its bytes decoded
        module _ (group : List Positioned) (is : held ++ more ≡ group)
            (whole : length group ≡ size) where
          one : (whole_runs size group ≡ group ∷ []) × (left size group ≡ [])
          one = whole_runs-one size pos group whole

          groups_are : whole_groups base (text ++ piece) ≡ gs ++ group ∷ []
          groups_are = rw (joined.0, with_held ∙ is, one.0)

          pub HasRead-group : HasRead base (text ++ piece) (len + length piece)
              (fault_after ended base group) [] (is_final base group)
          HasRead-group =
              let final = is_final base group in
              record {
                counted = omega (arith, read.counted, length-append text piece);
                first = rw (groups_are, first-AreSound base false ended gs (group ∷ []) sound)
                    (sym (or_none (fault_after ended base group)));
                holds = λ _. rw (joined.1, with_held ∙ is, one.1);
                ends = λ none. rw groups_are (sym (any_final base false final (gs ++ group ∷ [])
                    (AreSound-append base false ended final gs (group ∷ []) sound (none, refl))));
              }

          -- unless it has a fault
          pub whole_bytes-group : whole_bytes base (text ++ piece)
              ≡ whole_bytes base text
              ++ cond (is_some (fault_after ended base group)) [] (bytes_of_group base group)
          whole_bytes-group =
              rw (groups_are, bytes-after base false ended gs (group ∷ []) sound)
              (ap (λ l. whole_bytes base text ++ l)
              (bytes_unless base (is_some (fault_after ended base group)) group))

  -- At the end, the bytes held are a last group.
  at_end : (ended : Bool) (held : List Positioned) → length held < size
      → (first_after ended base (runs size held) ≡ held_fault ended base held)
      × (flat_map (bytes_of_group base) (sound_after ended base (runs size held))
      ≡ cond (is_some (held_fault ended base held)) [] (bytes_of_group base held))
  at_end ended [] short = rw (runs-nil {X = Positioned} size pos) (refl, refl)
  at_end ended (k ∷ ks) short =
      rw (runs-short size (k ∷ ks) (omega arith) (omega (arith, short))) (
        or_none (fault_after ended base (k ∷ ks)),
        bytes_unless base (is_some (fault_after ended base (k ∷ ks))) (k ∷ ks),
      )

  module _ (text : List ℕ) (len : ℕ) (held : List Positioned) (ended : Bool) where
    abbrev wholes : List (List Positioned)
    wholes = whole_groups base text

    -- the first fault, and the bytes before it
    read_all : (fault : Option DecodeError) → HasRead base text len fault held ended
        → (first_fault base (groups base text) ≡ or_else fault (held_fault ended base held))
        × (sound_bytes base text ≡ whole_bytes base text
        ++ cond (is_some (or_else fault (held_fault ended base held))) []
        (bytes_of_group base held))
    read_all (Some error) read =
        let same = stays base false error wholes (runs size (unfinished base text))
        (sym read.first) in
        rw (runs-left size pos (kept base text)) (same.0, rw same.1 (sym (append-nil _)))
    read_all None read =
        let fine = sound text [] len held ended read in
        let last = at_end ended held
        (rw (read.holds refl) (left_len size pos (kept base text))) in
        rw (runs-left size pos (kept base text), ← read.holds refl) (
          first-AreSound base false ended wholes (runs size held) fine ∙ last.0,
          rw (bytes-after base false ended wholes (runs size held) fine, last.1),
        )

    -- the fault of the text, from what was kept of it
    pub fault_of-read : (fault : Option DecodeError) → HasRead base text len fault held ended
        → fault_of base text
        ≡ or_else (length_fault base len) (or_else fault (held_fault ended base held))
    fault_of-read fault read = rw (read.counted, (read_all fault read).0)

    -- and its bytes follow those of the others, if no group is faulty
    pub sound_bytes-read : (fault : Option DecodeError) → HasRead base text len fault held ended
        → sound_bytes base text ≡ whole_bytes base text
        ++ cond (is_some (or_else fault (held_fault ended base held))) []
        (bytes_of_group base held)
    sound_bytes-read fault read = (read_all fault read).1
