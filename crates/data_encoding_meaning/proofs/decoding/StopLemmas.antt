-- A decoding stops at the first faulty group.
use Rattle.std.proofs.Common.{◌≡◌, ℕ, ◌+◌, ◌-◌, ◌%◌, ◌<◌, ◌≤◌, ◌==◌, Bool, true, false, not, cond, ◌&&◌, ◌||◌, nat_lt, List, [], ◌∷◌, ◌++◌, length, take, Option, Some, None, IsOkAnd, refl, sym, ap, ◌∙◌, subst, arith, length-take-le, ⊎_elim}
use Rattle.std.proofs.lemmas.List.{length-drop, append-nil}
use Rattle.std.proofs.Math.Nat.{mod_self}
use Rattle.std.specs.List.{list_any, position}
use Rattle.data_encoding_meaning.proofs.grammar.JoinFaultLemmas.{valid_after}
use Rattle.data_encoding_meaning.specs.declared.encoding.Character.{Character}
use Rattle.data_encoding_meaning.specs.declared.error.GroupFault.{GroupFault}
use Rattle.data_encoding_meaning.specs.declared.error.DecodeError.{DecodeError}
use Rattle.data_encoding_meaning.specs.declared.error.DecodeKind.TheVariants.{Trailing as TrailingFault, Padding as PaddingFault}
use Rattle.data_encoding_meaning.specs.declared.error.DecodePartial.{DecodePartial}
use Rattle.data_encoding_meaning.specs.text.Base.{Base, is_symbol, is_padded, ignores_some, group_symbols, IsWidth}
use Rattle.data_encoding_meaning.specs.text.Bits.{runs}
use Rattle.data_encoding_meaning.specs.text.Grammar.{Positioned, kept, groups, kept_from, bytes_in, meanings_in}
use Rattle.data_encoding_meaning.specs.text.Lengths.{is_valid_count, is_valid_length, length_fault, decoded_len}
use Rattle.data_encoding_meaning.specs.decoding.Fault.{character_fault, count_before_padding, fault_after, fault_at_first, fault_of, faulty_at, group_fault, located, position_of, sound_bytes, sound_groups, symbols_fault, trailing_bits}
use Rattle.data_encoding_meaning.specs.decoding.Partial.{StopsAt, sound_len, read_len, is_length_fault, partial_at, partial_by, partial_of}
use Rattle.data_encoding_meaning.specs.decoding.Decoding.{HasDecodedTo}
use Rattle.data_encoding_meaning.proofs.digits.WidthLemmas.{group_symbols-pos}
use Rattle.data_encoding_meaning.proofs.lists.RunLemmas.{runs-nil, runs-append, runs-join, runs-short, flat_map-runs}
use Rattle.data_encoding_meaning.proofs.grammar.PositionLemmas.{length-kept_plain, length-positioned_from, filter-plain, length-meanings}
use Rattle.data_encoding_meaning.proofs.grammar.KeptLemmas.{between, kept-split, kept_from-more, kept_in-within, length-between}
use Rattle.data_encoding_meaning.proofs.grammar.LengthLemmas.{length_fault-none, length_fault-valid, valid-whole, whole-length}
use Rattle.data_encoding_meaning.proofs.grammar.GroupLemmas.{group_fault-inside, located-inside}
use Rattle.data_encoding_meaning.proofs.grammar.SoundLemmas.{first-AreSound, sound-AreSound, sound-all, first-none}
use Rattle.data_encoding_meaning.proofs.grammar.MeaningLemmas.{Means-no_fault, sound_bytes-Means, decoded_len-Means}
use Rattle.data_encoding_meaning.proofs.decoding.ProgressLemmas.{IsNext, whole-before, sound_bytes-front}

-- the kind of a fault of symbols, or of padding
pub kind_of : (fault error : DecodeError) → Some fault ≡ Some error
    → is_length_fault fault.kind ≡ false → is_length_fault error.kind ≡ false
kind_of fault error h k =
    let same : fault ≡ error = cc in subst (λ x. is_length_fault x.kind ≡ false) same k

-- a fault that is none of a length
abbrev IsOther : Option GroupFault → Type 0
IsOther None = Unit {0}
IsOther (Some fault) = is_length_fault fault.kind ≡ false

other-symbols : (base : Base) (group : List Character) → IsOther (symbols_fault base group)
other-symbols base group =
    by (position (λ m. not (is_symbol m)) group)
    (base.checks_trailing_bits && list_any (λ bit. not (bit == 0)) (trailing_bits base group)) where
      by : (o : Option ℕ) (trails : Bool) → IsOther (fault_at_first o
          (cond trails (faulty_at TrailingFault (length group - 1)) None))
      by (Some index) trails = refl
      by None true = refl
      by None false = tt

other-padding : (base : Base) (group : List Character) (bad : Bool) (count : ℕ)
    → IsOther (cond bad (faulty_at PaddingFault count) (symbols_fault base (take count group)))
other-padding base group true count = refl
other-padding base group false count = other-symbols base (take count group)

-- a whole group has no fault of a length, nor has an unpadded one of a valid number
other-group : (base : Base) (group : List Character) (b : Bool) → is_padded base ≡ b
    → cond b (nat_lt (length group) (group_symbols base.width) ≡ false)
    (is_valid_count base.width (length group) ≡ true)
    → IsOther (character_fault base group)
other-group base group true is whole =
    let count = count_before_padding group in
    let bad = count == 0 || not (is_valid_count base.width count) in
    rw (is, whole) (other-padding base group bad count)
other-group base group false is valid = rw (is, valid) (other-symbols base group)

kind-located : (group : List Positioned) (o : Option GroupFault) (error : DecodeError)
    → IsOther o → located group o ≡ Some error → is_length_fault error.kind ≡ false
kind-located group None error other h = cc
kind-located group (Some fault) error other h = kind_of _ error h other

-- This much of a text was decoded, and the next group is faulty.
pub record IsAtFault (base : Base) (text : List ℕ) (read written : ℕ) (output : List ℕ)
    (error : DecodeError) : Type 0 where
  pub width : IsWidth base.width
  pub ended : Bool
  pub so_far : HasDecodedTo base text read written ended output
  pub no_length_fault : length_fault base (length text) ≡ None
  pub stop : ℕ
  pub group : List Positioned
  pub next : IsNext base text read stop group
  pub faulty : fault_after ended base group ≡ Some error

module _ {base : Base} {text : List ℕ} {read written : ℕ} {output : List ℕ} {error : DecodeError}
    (at : IsAtFault base text read written output error) where
  abbrev size : ℕ
  size = group_symbols base.width

  pub pos : 0 < size
  pos = group_symbols-pos base.width at.width

  pub whole : length (kept base (take read text)) % size ≡ 0
  whole = whole-before base at.width text at.so_far at.next.is_part

  pub rest_is : kept_from base read text ≡ at.group ++ kept_from base at.stop text
  rest_is =
      kept_from-more base read text at.so_far.within at.stop at.next.is_part.after
      at.next.is_part.within
      ∙ ap (λ l. l ++ kept_from base at.stop text) (sym at.next.is_part.is_kept)

  abbrev others : List (List Positioned)
  others = runs size (kept_from base at.stop text)

  groups_left : runs size (at.group ++ kept_from base at.stop text) ≡ at.group ∷ others
  groups_left =
      ⊎_elim {C = runs size (at.group ++ kept_from base at.stop text) ≡ at.group ∷ others}
      (λ len. runs-append size at.group (kept_from base at.stop text) pos len)
      (λ (none : kept_from base at.stop text ≡ []).
      rw (none, append-nil at.group, runs-nil {X = Positioned} size pos)
      (runs-short size at.group at.next.is_part.some at.next.few))
      at.next.last

  groups_are : groups base text ≡ groups base (take read text) ++ at.group ∷ others
  groups_are =
      rw (kept-split base read text at.so_far.within, rest_is)
      (runs-join size (kept base (take read text)) (at.group ++ kept_from base at.stop text) pos
      whole
      ∙ ap (λ l. groups base (take read text) ++ l) groups_left)

  pub fault_is : fault_of base text ≡ Some error
  fault_is =
      rw (at.no_length_fault, groups_are)
      (rw (first-AreSound base false at.ended _ (at.group ∷ others) at.so_far.sound, at.faulty))

  sound_are : sound_groups base (groups base text) ≡ groups base (take read text)
  sound_are =
      rw groups_are
      (rw (sound-AreSound base false at.ended _ (at.group ∷ others) at.so_far.sound, at.faulty)
      (append-nil (groups base (take read text))))

  pub sound-front : sound_bytes base text ≡ sound_bytes base (take read text)
  sound-front =
      rw (sound_are, sound-all base false at.ended (groups base (take read text)) at.so_far.sound)

  pub sound_len_is : sound_len base text ≡ read
  sound_len_is = rw (sound_are, flat_map-runs size (kept base (take read text)) pos) at.so_far.ends

  front_sound : fault_of base (take read text) ≡ None
  front_sound =
      let valid = length_fault-none base (length (take read text))
      (λ none. whole-length base at.width (length (take read text))
      (rw (length-kept_plain base (take read text) none) at whole)) in
      rw valid (first-none base false at.ended (groups base (take read text)) at.so_far.sound)

  fault_inside : (index : ℕ) × (index < length at.group)
      × (error.position ≡ position_of at.group index)
  fault_inside = by at.ended at.faulty where
    by : (b : Bool) → fault_after b base at.group ≡ Some error
        → (index : ℕ) × (index < length at.group)
        × (error.position ≡ position_of at.group index)
    by true h =
        let first : DecodeError =
        record { position = position_of at.group 0; kind = PaddingFault } in
        let same : first ≡ error = cc in
        (0, at.next.is_part.some, sym (ap (λ (x : DecodeError). x.position) same))
    by false h =
        located-inside at.group (group_fault base (bytes_in at.group)) error
        (group_fault-inside base at.width at.group at.next.is_part.some at.next.few) h

  pub bounds : (read ≤ error.position) × (error.position < at.stop)
  bounds =
      let part_len = length-between base read text at.so_far.within at.stop at.next.is_part.after
      at.next.is_part.within in
      rw fault_inside.2 (subst (λ g. fault_inside.0 < length g
      → (read ≤ position_of g fault_inside.0) × (position_of g fault_inside.0 < at.stop))
      (sym at.next.is_part.is_kept)
      (kept_in-within base read at.stop (between read at.stop text) fault_inside.0
      (omega (arith, part_len, at.next.is_part.after))) fault_inside.1)

  -- a decoding stops there, having read this far and written the bytes of that
  pub stops : (new : List ℕ) (end count : ℕ) → read_len base text error ≡ end
      → end ≤ error.position → fault_of base (take end text) ≡ None → count ≤ length new
      → sound_bytes base (take end text) ≡ take count new
      → StopsAt base text new (record { read = end; written = count; error = error })
  stops new end count read_is before sound fits bytes =
      record {
        is_partial = rw (fault_is, read_is, bytes, length-take-le count new fits);
        means = rw (← bytes) (Means-no_fault base at.width (take end text) sound);
        read_before = before;
        within = omega (arith, bounds.1, at.next.is_part.within);
      }

  -- at a faulty group, the text has its fault
  pub at-fault_front : is_length_fault error.kind ≡ false → (new : List ℕ) → written ≤ length new
      → take written new ≡ take written output
      → StopsAt base text new (record { read = read; written = written; error = error })
  at-fault_front kind new fits same =
      stops new read written (rw kind sound_len_is) bounds.0 front_sound fits
      (sound_bytes-front base at.width text at.so_far ∙ sym same)

  pub at-fault : is_length_fault error.kind ≡ false
      → StopsAt base text output (record { read = read; written = written; error = error })
  at-fault kind = at-fault_front kind output at.so_far.fits refl

  -- a group of a valid length has no fault of its length
  pub kind-valid : is_valid_length base (length at.group) ≡ true
      → is_length_fault error.kind ≡ false
  kind-valid valid = by at.ended at.faulty where
    by : (b : Bool) → fault_after b base at.group ≡ Some error
        → is_length_fault error.kind ≡ false
    by true h = kind_of _ error h refl
    by false h =
        kind-located at.group (group_fault base (bytes_in at.group)) error
        (other-group base (meanings_in base at.group) (is_padded base) refl
        (rw (← length-meanings base at.group) at
        (valid-whole base (length at.group) at.next.is_part.some valid))) h

  module _ (none : ignores_some base ≡ false) where
    read_whole : read % size ≡ 0
    read_whole =
        rw (length-kept_plain base (take read text) none, length-take-le read text at.so_far.within)
        at whole

    group_len : length at.group ≡ at.stop - read
    group_len =
        rw (at.next.is_part.is_kept, filter-plain base none, length-positioned_from)
        (length-between base read text at.so_far.within at.stop at.next.is_part.after
        at.next.is_part.within)

    last_stop : kept_from base at.stop text ≡ [] → read + length at.group ≡ length text
    last_stop empty =
        let left = rw (filter-plain base none, length-positioned_from, length-drop) at
        (ap length empty) in
        omega (arith, left, group_len, at.next.is_part.after, at.next.is_part.within)

    -- if nothing is ignored, that is no fault of a length
    pub kind-next : is_length_fault error.kind ≡ false
    kind-next =
        kind-valid (⊎_elim {C = is_valid_length base (length at.group) ≡ true}
        (λ len.
        whole-length base at.width (length at.group) (rw len (mod_self size)))
        (λ empty.
        rw (← valid_after base at.width read (length at.group) read_whole, last_stop empty)
        (length_fault-valid base (length text) at.no_length_fault none))
        at.next.last)

-- what has a fault means nothing
pub fault-partial : (base : Base) (text : List ℕ) (partial : DecodePartial)
    → partial_of base text ≡ Some partial → fault_of base text ≡ Some partial.error
fault-partial base text partial h = by (fault_of base text) h where
  by : (o : Option DecodeError) → partial_by base text o ≡ Some partial → o ≡ Some partial.error
  by None h = cc
  by (Some error) h =
      let same : partial_at base text error ≡ partial = cc in
      ap (λ (p : DecodePartial). Some p.error) same

-- no more is written than what was read may mean
pub most-partial : (base : Base) → IsWidth base.width → (text output : List ℕ)
    (partial : DecodePartial) → StopsAt base text output partial
    → IsOkAnd (decoded_len base partial.read) (λ most. partial.written ≤ most)
most-partial base width text output partial stops =
    let front = take partial.read text in
    let bytes = take partial.written output in
    let read_len : length front ≡ partial.read =
    length-take-le partial.read text (omega (arith, stops.read_before, stops.within)) in
    let here = rw (fault-partial base text partial stops.is_partial) at stops.is_partial in
    let same : partial_at base text partial.error ≡ partial = cc in
    let written_len : length bytes ≡ partial.written =
    rw (← sound_bytes-Means base width front bytes stops.means)
    (subst (λ (p : DecodePartial). length (sound_bytes base (take p.read text)) ≡ p.written) same
    refl) in
    rw (read_len, written_len) at (decoded_len-Means base width front bytes stops.means)
