-- A piece of whole groups that means data, after whole groups, is read at once. So is one with a
-- fault that no unfinished group has, which is that of the whole groups.
use Rattle.std.proofs.Common.{◌≡◌, ℕ, ◌⊎◌, ◌+◌, ◌%◌, ◌<◌, ◌==◌, Bool, true, false, not, ◌||◌, List, [], ◌∷◌, ◌++◌, length, map, take, Option, Some, None, is_some, inl, inr, refl, sym, ap, ◌∙◌, arith, length-append, ◌-◌, ◌*◌, ◌/◌, ⊎_elim, append-nil}
use Rattle.std.proofs.lemmas.Bool.{false≢true}
use Rattle.std.proofs.lemmas.List.Folds.{list_any-append}
use Rattle.std.specs.List.{list_any}
use Rattle.data_encoding_meaning.specs.declared.error.DecodeError.{DecodeError}
use Rattle.data_encoding_meaning.specs.declared.error.DecodePartial.{DecodePartial}
use Rattle.data_encoding_meaning.specs.text.Base.{Base, IsWidth, group_symbols, ignores_some, is_padded}
use Rattle.data_encoding_meaning.specs.decoding.Fault.{first_fault, fault_of, AreSound}
use Rattle.data_encoding_meaning.specs.text.Grammar.{Means, Positioned, groups, is_final, kept, meanings_in}
use Rattle.data_encoding_meaning.specs.laws.Laws.{shifted}
use Rattle.data_encoding_meaning.specs.text.Lengths.{length_fault, is_valid_count, most_bytes}
use Rattle.data_encoding_meaning.specs.decoding.Partial.{partial_of, is_length_fault}
use Rattle.data_encoding_meaning.specs.decoding.Pieces.{HasRead, IsOfWholeGroup, unfinished, whole_bytes, whole_groups, held_fault}
use Rattle.data_encoding_meaning.proofs.decoding.PieceLemmas.{bytes-after, more, sound, sound_bytes-read, joined, fault_of-read}
use Rattle.data_encoding_meaning.proofs.decoding.StopLemmas.{fault-partial}
use Rattle.data_encoding_meaning.proofs.digits.WidthLemmas.{group_symbols-pos}
use Rattle.data_encoding_meaning.proofs.grammar.JoinFaultLemmas.{AreFew, final-moved, first-moved, kept_in-moved, moved, sound-moved}
use Rattle.data_encoding_meaning.proofs.grammar.JoinLemmas.{whole-padded, whole-plain}
use Rattle.data_encoding_meaning.proofs.grammar.MeaningLemmas.{no_fault-Means, sound_bytes-Means}
use Rattle.data_encoding_meaning.proofs.grammar.PositionLemmas.{length-kept_plain, length-meanings}
use Rattle.data_encoding_meaning.proofs.grammar.SoundLemmas.{first-AreSound, neither_fault}
use Rattle.data_encoding_meaning.proofs.lists.RunLemmas.{few_runs}
use Rattle.data_encoding_meaning.proofs.lists.WholeRunLemmas.{front_of, left-map, whole_runs-all, whole_runs-front, whole_runs-map, left_len}
use Rattle.data_encoding_meaning.proofs.judgement.RuleLemmas.{IsRuled, IsRuledPadding}
use Rattle.std.proofs.lemmas.Bool.Decides.{nat_tests}
use Rattle.data_encoding_meaning.proofs.decoding.WholeLengthLemmas.{none_final-joined}
use Rattle.data_encoding_meaning.proofs.decoding.ResumeLemmas.{Means-partial}

-- if fewer symbols than a group mean no byte, they are not a valid number
few-invalid : (width size count : ℕ) → width * (size - 1) / 8 ≡ 0 → 0 < count → count < size
    → is_valid_count width count ≡ false
few-invalid width size count none some few = grind (arith, nat_tests)

module _ (base : Base) (width : IsWidth base.width) where
  abbrev size : ℕ
  size = group_symbols base.width

  pos : 0 < size
  pos = group_symbols-pos base.width width

  short-other : most_bytes base (size - 1) ≡ 0 → (held : List Positioned) → length held < size
      → (error : DecodeError) → is_length_fault error.kind ≡ false
      → held_fault false base held ≡ Some error → ⊥
  short-other none [] few error other h = cc
  short-other none (k ∷ ks) few error other h =
      let len = length-meanings base (k ∷ ks) in
      let invalid = few-invalid base.width size (length (meanings_in base (k ∷ ks))) in
      grind (arith, nat_tests)

  module _ (piece : List ℕ) (error : DecodeError) (fault : fault_of base piece ≡ Some error)
      (is : IsOfWholeGroup base (length piece) error.kind) where
    no-length_fault : length_fault base (length piece) ≡ None
    no-length_fault = let other = is.not_length in grind (arith, other, fault)

    first-whole : first_fault base (whole_groups base piece) ≡ Some error
    first-whole =
        let read = fault_of-read base width piece (length piece) (unfinished base piece) false
        (first_fault base (whole_groups base piece)) (record {
          counted = refl;
          first = refl;
          holds = λ _. refl;
          ends = λ _. sym (none_final-joined base is.joins (whole_groups base piece));
        }) in
        let no_other : held_fault false base (unfinished base piece) ≡ Some error → ⊥ =
        ⊎_elim {C = held_fault false base (unfinished base piece) ≡ Some error → ⊥}
        (λ plain. rw (whole_runs-all size pos (kept base piece)
        (ap (λ n. n % size) (length-kept_plain base piece plain.0) ∙ plain.1)).1
        (λ h. cc))
        (λ none. short-other none (unfinished base piece) (left_len size pos (kept base piece))
        error is.not_length)
        is.whole in
        grind (arith, sym read ∙ fault, no-length_fault, no_other)

  any_final-moved : (count : ℕ) (gs : List (List Positioned))
      → list_any (is_final base) (map (moved count) gs) ≡ list_any (is_final base) gs
  any_final-moved count [] = refl
  any_final-moved count (g ∷ gs) = λ i.
      final-moved base width count g i || any_final-moved count gs i

  module _ (text piece : List ℕ) (len : ℕ) (read : HasRead base text len None [] false) where
    abbrev before : List (List Positioned)
    before = whole_groups base text

    abbrev further_on : Positioned → Positioned
    further_on k = record { position = len + k.position; byte = k.byte }

    -- the whole groups of the piece, at their positions in the text
    abbrev others : List (List Positioned)
    others = map (moved len) (whole_groups base piece)

    few : AreFew base width (whole_groups base piece)
    few =
        rw (whole_runs-front size pos (kept base piece))
        (few_runs size (front_of size (kept base piece)) pos)

    later : unfinished base text ++ more base width text piece ≡ moved len (kept base piece)
    later =
        let start : length text ≡ len + 0 = omega (arith, read.counted) in
        rw (← read.holds refl, start) (kept_in-moved base width len 0 piece)

    groups_are : whole_groups base (text ++ piece) ≡ before ++ others
    groups_are =
        rw ((joined base width text piece).0, later)
        (ap (λ gs. before ++ gs) (whole_runs-map size pos further_on (kept base piece)))

    before_sound : AreSound base false before false
    before_sound = sound base width text piece len [] false read

    -- what is kept of the piece alone, with the length before it added
    HasRead-after : (fault : Option DecodeError) (held : List Positioned) (ended : Bool)
        → HasRead base piece (length piece) fault held ended
        → HasRead base (text ++ piece) (len + length piece) (shifted len fault) (moved len held)
        ended
    HasRead-after fault held ended alone = record {
      counted = omega (arith, read.counted, length-append text piece);
      first = rw (alone.first, groups_are)
          (sym (first-AreSound base false false before others before_sound
          ∙ first-moved base width len false (whole_groups base piece) few));
      holds = λ none.
          let is = alone.holds (none_further fault none) in
          rw (is, (joined base width text piece).1, later)
          (sym (left-map size pos further_on (kept base piece)));
      ends = λ none.
          let is = alone.ends (none_further fault none) in
          rw (is, groups_are, list_any-append (is_final base) before others, ← read.ends refl)
          (sym (any_final-moved len (whole_groups base piece)));
    } where
      none_further : (o : Option DecodeError) → shifted len o ≡ None → o ≡ None
      none_further o h = grind arith

    -- and its bytes are appended
    whole_bytes-after : whole_bytes base (text ++ piece)
        ≡ whole_bytes base text ++ whole_bytes base piece
    whole_bytes-after =
        rw (groups_are, bytes-after base false false before others before_sound)
        (rw (sound-moved base width len false (whole_groups base piece) few))

    -- if it means data and is whole groups
    pub ReadsSound-whole : (bytes : List ℕ) → Means base piece bytes
        → length (kept base piece) % size ≡ 0
        → HasRead base (text ++ piece) (len + length piece) None []
        (list_any (is_final base) (groups base piece))
        × (whole_bytes base (text ++ piece) ≡ whole_bytes base text ++ bytes)
    ReadsSound-whole bytes means whole =
        let all = whole_runs-all size pos (kept base piece) whole in
        let none = neither_fault (length_fault base (length piece))
        (first_fault base (groups base piece)) (no_fault-Means base width piece bytes means) in (
          HasRead-after None [] (list_any (is_final base) (groups base piece)) (record {
            counted = refl;
            first = rw all.0 (sym none.1);
            holds = λ _. sym all.1;
            ends = λ _. rw all.0;
          }),
          rw (whole_bytes-after, all.0, sound_bytes-Means base width piece bytes means),
        )

    -- if it has the fault of a whole group
    pub ReadsFaulty-whole : (bytes : List ℕ) (partial : DecodePartial)
        → partial_of base piece ≡ Some partial
        → IsOfWholeGroup base (length piece) partial.error.kind
        → Means base (take partial.read piece) bytes
        → HasRead base (text ++ piece) (len + length piece) (shifted len (Some partial.error)) []
        false
        × (whole_bytes base (text ++ piece) ≡ whole_bytes base text ++ bytes)
    ReadsFaulty-whole bytes partial is of_whole means =
        let fault = fault-partial base piece partial is in
        let first = first-whole piece partial.error fault of_whole in
        let alone : HasRead base piece (length piece) (Some partial.error) [] false = record {
          counted = refl;
          first = sym first;
          holds = λ none. cc;
          ends = λ none. cc;
        } in
        let all = sound_bytes-read base width piece (length piece) [] false (Some partial.error)
        alone in
        let read = Means-partial base width piece partial
        (no-length_fault piece partial.error fault of_whole) is in (
          HasRead-after (Some partial.error) [] false alone,
          rw (whole_bytes-after, ← sound_bytes-Means base width _ bytes means)
              (rw (← read.2 of_whole.not_length, all, append-nil (whole_bytes base piece))),
        )

-- When a text that means data is whole groups.
module _ (base : Base) (ruled : IsRuled base) (piece bytes : List ℕ) where
  abbrev IsWholeBy : Type 0
  IsWholeBy =
      (is_padded base ≡ true) ⊎ (8 % base.width ≡ 0)
      ⊎ ((ignores_some base ≡ false) × (length piece % group_symbols base.width ≡ 0))

  pub kept-whole : Means base piece bytes → IsWholeBy
      → length (kept base piece) % group_symbols base.width ≡ 0
  kept-whole means = by base.padding refl ruled.padding where
    by : (o : Option ℕ) → base.padding ≡ o → IsRuledPadding base o → IsWholeBy
        → length (kept base piece) % group_symbols base.width ≡ 0
    by o is h (inr (inr plain)) = rw (length-kept_plain base piece plain.0) plain.1
    by None is h (inl padded) = absurd (false≢true (sym (ap is_some is) ∙ padded))
    by None is h (inr (inl divides)) =
        whole-plain base ruled piece [] bytes [] (ap is_some is) divides means
    by (Some character) is h (inl padded) = whole-padded base ruled piece [] bytes [] padded means
    by (Some character) is h (inr (inl divides)) =
        absurd (false≢true (sym (ap (λ n. not (n == 0)) divides) ∙ h.2))
