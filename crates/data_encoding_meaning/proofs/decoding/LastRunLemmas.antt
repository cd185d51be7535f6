-- A decoding that stops at a last group that is too short.
use Rattle.std.proofs.Common.{◌≡◌, ℕ, ◌+◌, ◌-◌, ◌<◌, ◌≤◌, ◌⊎◌, Bool, true, false, not, cond, List, [], ◌∷◌, ◌++◌, length, take, drop, Some, None, is_some, refl, sym, ap, ◌∙◌, arith, length-append, length-take-le, ⊎_elim, inl, inr, map}
use Rattle.std.proofs.lemmas.Bool.{cases_lt, false_from_ne_true, false≢true}
use Rattle.std.proofs.lemmas.List.{append-nil, length-drop, length-take, take-take, take_all, take_at, length-map}
use Rattle.std.proofs.lemmas.List.Concat.{flat_map-append}
use Rattle.data_encoding_meaning.proofs.decoding.GroupJudgementLemmas.{fault-length}
use Rattle.data_encoding_meaning.specs.declared.error.DecodeError.{DecodeError}
use Rattle.data_encoding_meaning.specs.declared.error.DecodeKind.TheVariants.{Length as LengthFault}
use Rattle.data_encoding_meaning.specs.text.Base.{Base, meaning, is_ignored, group_symbols}
use Rattle.data_encoding_meaning.specs.text.Grammar.{Positioned, positioned_from, kept, groups, is_final, kept_in, kept_from, bytes_in}
use Rattle.data_encoding_meaning.specs.text.Lengths.{greatest_valid_length, length_fault, is_valid_length}
use Rattle.data_encoding_meaning.specs.decoding.Fault.{fault_after, fault_at, fault_of, group_fault, position_of, sound_bytes, symbol_bytes, AreSound}
use Rattle.data_encoding_meaning.specs.decoding.Partial.{StopsAt, read_len, is_length_fault, is_sound_run}
use Rattle.data_encoding_meaning.proofs.lists.ListLemmas.{filter-all, length-filter}
use Rattle.data_encoding_meaning.proofs.lists.RunLemmas.{runs-join, runs-short}
use Rattle.data_encoding_meaning.proofs.grammar.PositionLemmas.{bytes-positioned_from, length-positioned_from}
use Rattle.data_encoding_meaning.proofs.grammar.KeptLemmas.{kept_from-more}
use Rattle.data_encoding_meaning.proofs.grammar.LengthLemmas.{length_fault-none, whole-less}
use Rattle.data_encoding_meaning.proofs.grammar.SoundLemmas.{AreSound-append, first-none, sound-all}
use Rattle.data_encoding_meaning.proofs.decoding.ProgressLemmas.{sound_bytes-front}
use Rattle.data_encoding_meaning.proofs.decoding.StopLemmas.{IsAtFault, bounds, kind-next, kind-valid, kind_of, pos, rest_is, sound_len_is, stops, whole}
use Rattle.data_encoding_meaning.proofs.decoding.GreatestLengthLemmas.{greatest-least, greatest-less, greatest-more, greatest-same, greatest-valid}
use Rattle.data_encoding_meaning.proofs.decoding.IgnoringLemmas.{group-kept}
use Rattle.data_encoding_meaning.proofs.decoding.CutLemmas.{kept-cut}
use Rattle.data_encoding_meaning.proofs.decoding.SoundRunLemmas.{sound_run-none, sound_run-group, sound_run-first}

module _ {base : Base} {text : List ℕ} {read written : ℕ} {output : List ℕ} {error : DecodeError}
    (at : IsAtFault base text read written output error)
    (kind : is_length_fault error.kind ≡ true) where
  abbrev size : ℕ
  size = group_symbols base.width

  -- the greatest valid length of the rest, and the prefix of that length
  abbrev len : ℕ
  len = greatest_valid_length base (length (drop read text))

  abbrev front : List ℕ
  front = take len (drop read text)

  len_most : len ≤ length (drop read text)
  len_most = greatest-least base at.width (length (drop read text))

  abbrev index : ℕ
  index = greatest_valid_length base (length at.group)

  not_ended : (at.ended ≡ false) × (fault_after false base at.group ≡ Some error)
  not_ended = by at.ended refl at.faulty where
    by : (b : Bool) → at.ended ≡ b → fault_after b base at.group ≡ Some error
        → (at.ended ≡ false) × (fault_after false base at.group ≡ Some error)
    by true is h = absurd (false≢true (sym (kind_of _ error h refl) ∙ kind))
    by false is h = (is, h)

  -- its length is not valid, and its fault is after the greatest valid number of its bytes
  invalid : is_valid_length base (length at.group) ≡ false
  invalid =
      false_from_ne_true (is_valid_length base (length at.group))
      (λ valid. false≢true (sym (kind-valid at valid) ∙ kind))

  few_members : length at.group < size
  few_members = whole-less base at.width (length at.group) at.next.few invalid

  index_inside : index < length at.group
  index_inside = greatest-less base at.width (length at.group) invalid

  position_is : error.position ≡ position_of at.group index
  position_is =
      let bytes = bytes_in at.group in
      let same = length-map at.group (λ (k : Positioned). k.byte) in
      let fault = fault-length base at.width bytes (omega (arith, at.next.is_part.some, same))
      (omega (arith, at.next.few, same)) (rw same invalid) in
      let here : fault_at LengthFault at.group index ≡ Some error =
      rw (fault, same) at not_ended.1 in
      let first : DecodeError =
      record { position = position_of at.group index; kind = LengthFault } in
      let found : first ≡ error = cc in
      sym (ap (λ (x : DecodeError). x.position) found)

  -- it is the last one: all that is left
  group_is : kept_from base read text ≡ at.group
  group_is =
      let last : kept_from base at.stop text ≡ [] =
      ⊎_elim {C = kept_from base at.stop text ≡ []}
      (λ full. absurd (omega (arith, full, few_members))) (λ none. none) at.next.last in
      rest_is at ∙ rw last (append-nil at.group)

  -- before its fault are this many of its bytes
  kept_before : kept base (take error.position text)
      ≡ kept base (take read text) ++ take index at.group
  kept_before =
      rw group_is at (kept-cut base read text at.so_far.within index error.position (bounds at).0
      (omega (arith, (bounds at).1, at.next.is_part.within))
      (rw group_is index_inside) (rw group_is position_is))

  few_kept : length at.group ≤ length (drop read text)
  few_kept =
      rw (group_is, length-positioned_from) at
      (length-filter (λ (k : Positioned). not (is_ignored (meaning base k.byte)))
      (positioned_from read (drop read text)))

  index_most : index ≤ len
  index_most = greatest-more base at.width (length at.group) (length (drop read text)) few_kept

  no_length : (part : List ℕ) → length_fault base (length part) ≡ None
  no_length part =
      length_fault-none base (length part)
      (λ none. absurd (false≢true (sym (kind-next at none) ∙ kind)))

  -- a prefix of the rest without a fault is a prefix of the group
  run_kept : (count : ℕ) → count ≤ length (drop read text) → count ≤ size
      → group_fault base (take count (drop read text)) ≡ None
      → at.group ≡ positioned_from read (take count (drop read text))
      ++ kept_from base (read + count) text
  run_kept count many few sound =
      let run = take count (drop read text) in
      let run_len : length (positioned_from read run) ≡ count =
      length-positioned_from read run ∙ length-take-le count (drop read text) many in
      let here : group_fault base (bytes_in (positioned_from read run)) ≡ None =
      ap (group_fault base) (bytes-positioned_from read run) ∙ sound in
      let all : kept_in base read run ≡ positioned_from read run =
      filter-all (λ (k : Positioned). not (is_ignored (meaning base k.byte)))
      (positioned_from read run)
      (group-kept base at.width (positioned_from read run) (omega (arith, run_len, few)) here) in
      let same : read + count - read ≡ count = omega arith in
      let more = kept_from-more base read text at.so_far.within (read + count) (omega arith)
      (omega (arith, length-drop read text, many, at.so_far.within)) in
      sym group_is ∙ rw (more, same, all)

  -- and so no more than it has
  run_few : (count : ℕ) → count ≤ length (drop read text) → count ≤ size
      → group_fault base (take count (drop read text)) ≡ None
      → count ≤ length at.group
  run_few count many few sound =
      let parts = simp (length-append, length-positioned_from) at
      (ap length (run_kept count many few sound)) in
      omega (arith, parts, length-take-le count (drop read text) many)

  read_by : (sound : Bool) → is_sound_run base (drop read text) ≡ sound
      → read_len base text error ≡ cond sound error.position read
  read_by sound is = rw (kind, sound_len_is at, is)

  -- no group but those that were read before
  front_sound : (end : ℕ) → kept base (take end text) ≡ kept base (take read text)
      → fault_of base (take end text) ≡ None
  front_sound end same =
      rw (no_length (take end text), same)
      (first-none base false at.ended (groups base (take read text)) at.so_far.sound)

  front_bytes : (end : ℕ) → kept base (take end text) ≡ kept base (take read text)
      → sound_bytes base (take end text) ≡ take written output
  front_bytes end same = rw same (sound_bytes-front base at.width text at.so_far)

  -- if no run is left before the fault, all up to it is read
  pub last-none : len ≡ 0 → (new : List ℕ) → written ≤ length new
      → take written new ≡ take written output
      → StopsAt base text new
      (record { read = error.position; written = written; error = error })
  last-none none new fits same =
      let first : index ≡ 0 = omega (arith, index_most, none) in
      let front_same : kept base (take error.position text) ≡ kept base (take read text) =
      kept_before ∙ rw first (append-nil (kept base (take read text))) in
      stops at new error.position written
      (read_by true (sound_run-none base at.width (drop read text) none)) (omega arith)
      (front_sound error.position front_same) fits
      (front_bytes error.position front_same ∙ sym same)

  -- and a run without a fault is read and written too
  module _ (some : 0 < len) (few : len ≤ size)
      (sound : group_fault base front ≡ None) where
    abbrev run : List Positioned
    run = positioned_from read front

    run_len : length run ≡ len
    run_len = length-positioned_from read front ∙ length-take-le len (drop read text) len_most

    bytes_same : bytes_in run ≡ front
    bytes_same = bytes-positioned_from read front

    -- they are those before the fault
    run_is : take index at.group ≡ run
    run_is =
        let same_len : greatest_valid_length base len ≡ len =
        greatest-same base at.width len (greatest-valid base at.width (length (drop read text))) in
        let least : greatest_valid_length base len ≤ index =
        greatest-more base at.width len (length at.group) (run_few len len_most few sound) in
        let here : index ≡ len = omega (arith, same_len, least, index_most) in
        rw here (ap (take len) (run_kept len len_most few sound)
        ∙ take_at run (kept_from base (read + len) text) len run_len)

    groups_more : groups base (take error.position text)
        ≡ groups base (take read text) ++ run ∷ []
    groups_more =
        rw (kept_before, run_is)
        (runs-join size (kept base (take read text)) run (pos at) (whole at)
        ∙ ap (λ l. groups base (take read text) ++ l)
        (runs-short size run (omega (arith, run_len, some)) (omega (arith, run_len, few))))

    all_sound : AreSound base false (groups base (take read text) ++ run ∷ [])
        (is_final base run)
    all_sound =
        AreSound-append base false at.ended (is_final base run) (groups base (take read text))
        (run ∷ []) at.so_far.sound (rw (not_ended.0, bytes_same, sound), refl)

    pub last-sound : (count : ℕ) (new : List ℕ) → written + count ≤ length new
        → take (written + count) new
        ≡ take written output ++ symbol_bytes base (map (meaning base) front)
        → StopsAt base text new
        (record { read = error.position; written = written + count; error = error })
    last-sound count new fits writes =
        stops at new error.position (written + count)
        (read_by true (sound_run-group base at.width (drop read text) some few sound)) (omega arith)
        (rw (no_length (take error.position text), groups_more)
        (first-none base false (is_final base run) (groups base (take read text) ++ run ∷ [])
        all_sound))
        fits
        (rw (groups_more, sound-all base false (is_final base run) _ all_sound)
        (rw (flat_map-append, ← at.so_far.writes, writes, append-nil, bytes_same)))

  -- but no run with a fault is read
  pub last-unsound : 0 < len
      → (len ≤ size → is_some (group_fault base front) ≡ true)
      → (new : List ℕ) → written ≤ length new → take written new ≡ take written output
      → StopsAt base text new (record { read = read; written = written; error = error })
  last-unsound some bad new fits same =
      stops at new read written (read_by false unsound) (bounds at).0 (front_sound read refl) fits
      (front_bytes read refl ∙ sym same) where
        by : (size < len) ⊎ (len ≤ size) → group_fault base (take size front) ≡ None → ⊥
        by (inl long) first =
            let whole = rw (take-take size len (drop read text) (omega (arith, long))) at first in
            let few = run_few size (omega (arith, long, len_most)) (omega arith) whole in
            absurd (omega (arith, few_members, few))
        by (inr few) first =
            let front_len = length-take len (drop read text) in
            let none : group_fault base front ≡ None =
            rw (take_all size front (omega (arith, front_len, few))) at first in
            false≢true (sym (ap is_some none) ∙ bad few)

        unsound : is_sound_run base (drop read text) ≡ false
        unsound =
            false_from_ne_true (is_sound_run base (drop read text))
            (λ is. by (cases_lt size len) (sound_run-first base at.width (drop read text) some is))
