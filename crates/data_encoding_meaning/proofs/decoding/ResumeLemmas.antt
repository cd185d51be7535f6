-- A decoding that is resumed at the position at which it stopped: what is read of a text with a
-- fault means bytes.
use Rattle.std.proofs.Common.{◌≡◌, ℕ, zero, suc, ◌+◌, ◌<◌, ◌≤◌, ◌⊎◌, Bool, true, false, List, [], ◌++◌, length, set, take, drop, get_or, replicate, Option, Some, None, is_some, refl, ap, ◌∙◌, arith, length-append, inl, inr, map, append_assoc, take-append-drop, length-take-le}
use Rattle.std.proofs.lemmas.Bool.{cases_lt}
use Rattle.std.proofs.lemmas.List.{length-replicate, length-set, take_all}
use Rattle.data_encoding_meaning.specs.declared.error.GroupFault.{GroupFault}
use Rattle.data_encoding_meaning.specs.declared.error.DecodeError.{DecodeError}
use Rattle.data_encoding_meaning.specs.declared.error.DecodePartial.{DecodePartial}
use Rattle.data_encoding_meaning.specs.text.Base.{Base, IsWidth, meaning, is_ignored, group_symbols}
use Rattle.data_encoding_meaning.specs.decoding.Decoding.{IsGathered, valid_front, HasDecodedTo}
use Rattle.data_encoding_meaning.specs.text.Grammar.{Positioned, Means, is_final}
use Rattle.data_encoding_meaning.specs.text.Lengths.{greatest_valid_length, length_fault}
use Rattle.data_encoding_meaning.specs.decoding.Fault.{bytes_of_group, fault_after, fault_of, group_fault, sound_bytes, symbol_bytes}
use Rattle.data_encoding_meaning.specs.decoding.Partial.{StopsAt, is_length_fault, partial_of}
use Rattle.data_encoding_meaning.proofs.grammar.MeaningLemmas.{sound_bytes-Means}
use Rattle.data_encoding_meaning.proofs.decoding.GatherLemmas.{HasGathered, gather-ignored, gather-kept, gathered, gathered-few, is-next, next_bytes, none-next, nothing-gathered}
use Rattle.data_encoding_meaning.proofs.decoding.LastRunLemmas.{last-none, last-sound, last-unsound}
use Rattle.data_encoding_meaning.proofs.decoding.ProgressLemmas.{IsNext, after-group, at-end, begin, written_len}
use Rattle.data_encoding_meaning.proofs.decoding.StopLemmas.{IsAtFault, at-fault, fault-partial, sound-front}
use Rattle.data_encoding_meaning.specs.laws.Laws.{MayBeFollowed, Resumes, shifted}
use Rattle.data_encoding_meaning.proofs.grammar.JoinFaultLemmas.{fault-join, sound_bytes-join}
use Rattle.data_encoding_meaning.proofs.grammar.JoinLemmas.{Means-join}
use Rattle.data_encoding_meaning.proofs.judgement.RuleLemmas.{IsRuled}

-- the next kept bytes: a group, or all
abbrev Gathers : Base → ℕ → List ℕ → Type 0
Gathers base size part = (group : List ℕ) × (span : ℕ) × IsGathered base size part group span

module _ (base : Base) (size : ℕ) (part : List ℕ) where
  -- from a position, whatever was gathered before it
  abbrev GathersFrom : ℕ → Type 0
  GathersFrom index =
      (count span : ℕ) (room : List ℕ) → HasGathered base part index count span room
      → count ≤ size → length room ≡ size → Gathers base size part

  gather_from : (fuel index : ℕ) → index + fuel ≡ length part → GathersFrom index
  gather_from zero index at count span room so_far few len =
      (take count room, span, gathered so_far (omega arith) few (inr (omega arith)))
  gather_from (suc fuel) index at count span room so_far few len =
      by (is_ignored (meaning base (get_or part index 0))) refl (cases_lt count size)
      (gather_from fuel (index + 1) (omega arith)) where
        inside : index < length part
        inside = omega arith

        by : (b : Bool) → is_ignored (meaning base (get_or part index 0)) ≡ b
            → (count < size) ⊎ (size ≤ count) → GathersFrom (index + 1) → Gathers base size part
        by b is (inr full) others =
            (take count room, span, gathered so_far (omega (arith, inside)) few (inl (omega arith)))
        by true is (inl more) others =
            others count span room (gather-ignored base part index inside count span room so_far is)
            few len
        by false is (inl more) others =
            others (count + 1) (index + 1) (set room count (get_or part index 0))
            (gather-kept base part index inside count span room so_far is (omega arith))
            (omega arith) (length-set room count (get_or part index 0) ∙ len)

  gather_all : Gathers base size part
  gather_all =
      gather_from (length part) 0 (omega arith) 0 0 (replicate size 0)
      (nothing-gathered base part (replicate size 0)) (omega arith) (length-replicate size 0)

-- the bytes of a text with such a fault, unless it is of a length, are those of what is read
abbrev HasSoundFront : Base → List ℕ → DecodePartial → Type 0
HasSoundFront base text partial =
    is_length_fault partial.error.kind ≡ false
    → sound_bytes base text ≡ sound_bytes base (take partial.read text)

-- a decoding of the text stops somewhere
abbrev Stops : Base → List ℕ → Type 0
Stops base text =
    (output : List ℕ) × (partial : DecodePartial) × StopsAt base text output partial
    × HasSoundFront base text partial

module _ (base : Base) (width : IsWidth base.width) (text : List ℕ)
    (no_length_fault : length_fault base (length text) ≡ None) (first : DecodeError)
    (fault : fault_of base text ≡ Some first) where
  abbrev size : ℕ
  size = group_symbols base.width

  module _ (read written : ℕ) (ended : Bool) (output : List ℕ)
      (so_far : HasDecodedTo base text read written ended output) where
    abbrev front : List ℕ
    front = valid_front base (drop read text)

    abbrev len : ℕ
    len = greatest_valid_length base (length (drop read text))

    -- what was written, followed by bytes
    after_len : (bytes : List ℕ) → written + length bytes ≡ length (take written output ++ bytes)
    after_len bytes =
        let len = written_len base width text so_far in
        omega (arith, len, length-append (take written output) bytes)

    after_all : (bytes : List ℕ)
        → take (written + length bytes) (take written output ++ bytes)
        ≡ take written output ++ bytes
    after_all bytes =
        take_all (written + length bytes) (take written output ++ bytes)
        (omega (arith, after_len bytes))

    -- at a faulty group, or after a last run
    at_group : (stop : ℕ) (group : List Positioned) (error : DecodeError)
        → IsNext base text read stop group → fault_after ended base group ≡ Some error
        → Stops base text
    at_group stop group error next faulty =
        by (is_length_fault error.kind) refl (cases_lt 0 len) (cases_lt size len)
        (group_fault base front) refl where
          here : IsAtFault base text read written output error
          here = record {
            width = width;
            ended = ended;
            so_far = so_far;
            no_length_fault = no_length_fault;
            stop = stop;
            group = group;
            next = next;
            faulty = faulty;
          }

          by : (b : Bool) → is_length_fault error.kind ≡ b → (0 < len) ⊎ (len ≤ 0)
              → (size < len) ⊎ (len ≤ size) → (o : Option GroupFault) → group_fault base front ≡ o
              → Stops base text
          by false kind some few o is = (_, _, at-fault here kind, λ _. sound-front here)
          by true kind (inr none) few o is =
              (_, _, last-none here kind (omega (arith, none)) output so_far.fits refl, λ other. cc)
          by true kind (inl some) (inl long) o is =
              let at = last-unsound here kind some (λ few. absurd (omega (arith, long, few))) output
              so_far.fits refl in
              (_, _, at, λ other. cc)
          by true kind (inl some) (inr few) (Some bad) is =
              let at = last-unsound here kind some (λ _. ap is_some is) output so_far.fits refl in
              (_, _, at, λ other. cc)
          by true kind (inl some) (inr few) None is =
              let bytes = symbol_bytes base (map (meaning base) front) in
              let at = last-sound here kind some few is (length bytes)
              (take written output ++ bytes) (omega (arith, after_len bytes)) (after_all bytes) in
              (_, _, at, λ other. cc)

    -- the next group is faulty, or is read, and others are left
    step : ((stop count : ℕ) (end : Bool) (new : List ℕ)
        → HasDecodedTo base text stop count end new → read < stop → Stops base text)
        → Stops base text
    step others =
        by (cases_lt 0 (length next.0)) (fault_after ended base group) refl where
          next : Gathers base size (drop read text)
          next = gather_all base size (drop read text)

          group : List Positioned
          group = next_bytes base text read next.1

          by : (0 < length next.0) ⊎ (length next.0 ≤ 0) → (o : Option DecodeError)
              → fault_after ended base group ≡ o → Stops base text
          by (inr none) o is =
              let end = at-end base width text so_far no_length_fault
              (none-next base width text read so_far.within next.2 (omega (arith, none))) in cc
          by (inl some) (Some error) faulty =
              at_group (read + next.1) group error
              (is-next base width text read so_far.within next.2 some) faulty
          by (inl some) None sound =
              let bytes = bytes_of_group base group in
              others (read + next.1) (written + length bytes) (is_final base group)
              (take written output ++ bytes)
              (after-group base width text (length bytes) (take written output ++ bytes) so_far
              (is-next base width text read so_far.within next.2 some) sound
              (omega (arith, after_len bytes)) (after_all bytes))
              (omega (arith, some, gathered-few next.2))

  -- an induction on a bound of the bytes that are left
  walk : (fuel read written : ℕ) (ended : Bool) (output : List ℕ)
      → HasDecodedTo base text read written ended output → length text < read + fuel
      → Stops base text
  walk zero read written ended output so_far left = absurd (omega (arith, so_far.within))
  walk (suc fuel) read written ended output so_far left =
      step read written ended output so_far
      (λ stop count end new shifted more. walk fuel stop count end new shifted
      (omega (arith, more, left)))

-- what is read means bytes, is no more than the text, and has its bytes
pub Means-partial : (base : Base) → IsWidth base.width → (text : List ℕ) (partial : DecodePartial)
    → length_fault base (length text) ≡ None → partial_of base text ≡ Some partial
    → (partial.read ≤ length text)
    × Means base (take partial.read text) (sound_bytes base (take partial.read text))
    × HasSoundFront base text partial
Means-partial base width text partial no_length_fault is =
    let stops = walk base width text no_length_fault partial.error
    (fault-partial base text partial is) (suc (length text)) 0 0 false [] (begin base width text [])
    (omega arith) in
    let found = stops.2.is_partial in
    let same : partial ≡ stops.1 = cc in
    rw same (
      omega (arith, stops.2.read_before, stops.2.within),
      rw (sound_bytes-Means base width (take stops.1.read text)
          (take stops.1.written stops.0) stops.2.means) stops.2.means,
      stops.3,
    )

module _ (base : Base) (ruled : IsRuled base) (piece next : List ℕ) where
  -- what was read, and the rest followed by the next piece, are the whole
  whole : (read : ℕ) → take read piece ++ (drop read piece ++ next) ≡ piece ++ next
  whole read =
      rw (← append_assoc (take read piece) (drop read piece) next, take-append-drop read piece)

  -- a decoding that stopped is resumed
  pub resumed : (partial : DecodePartial) → length_fault base (length piece) ≡ None
      → partial_of base piece ≡ Some partial → MayBeFollowed base (take partial.read piece)
      → Resumes base piece next partial.read (sound_bytes base (take partial.read piece))
  resumed partial valid is follows =
      let means = Means-partial base ruled.is_width piece partial valid is in
      let front = take partial.read piece in
      let bytes = sound_bytes base front in
      let rest = drop partial.read piece ++ next in
      record {
        read_means = means.1;
        rest_means = λ more then. rw (← whole partial.read)
            (Means-join base ruled front rest bytes more follows means.1 then);
        fault = rw (← whole partial.read, fault-join base ruled front rest bytes follows means.1)
            (ap (λ n. shifted n (fault_of base rest))
            (length-take-le partial.read piece means.0));
        sound = rw (← whole partial.read)
            (sound_bytes-join base ruled front rest bytes follows means.1);
      }
