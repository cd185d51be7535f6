-- A decoding in progress: what a run, a group and the end do to it.
use Rattle.std.proofs.Common.{◌≡◌, ℕ, ◌+◌, ◌-◌, ◌*◌, ◌/◌, ◌%◌, ◌<◌, ◌≤◌, Bool, true, false, not, nat_lt, ◌&&◌, ◌==◌, ◌⊎◌, List, [], ◌++◌, length, take, drop, None, Ok, refl, sym, ap, ◌∙◌, subst, arith, length-take-le, ⊎_elim, inl, inr, map}
use Rattle.std.proofs.Math.Nat.{mod_self, mul-le-mul_left}
use Rattle.std.proofs.Math.Seq.{take-add}
use Rattle.std.proofs.lemmas.Bool.{eqb-true}
use Rattle.std.proofs.lemmas.Bool.Decides.{nat_tests}
use Rattle.std.proofs.lemmas.List.{drop-drop, length-drop, take_rest, length-map}
use Rattle.std.proofs.lemmas.Nat.{div-add-mod'}
use Rattle.std.proofs.lemmas.Slice.{take-put_mid_below}
use Rattle.data_encoding_meaning.proofs.decoding.WholeLengthLemmas.{most_bytes-few, whole_bytes}
use Rattle.data_encoding_meaning.specs.declared.error.DecodeError.{DecodeError}
use Rattle.data_encoding_meaning.specs.declared.error.DecodePartial.{DecodePartial}
use Rattle.data_encoding_meaning.specs.declared.error.GroupFault.{GroupFault}
use Rattle.data_encoding_meaning.specs.text.Base.{Base, IsWidth, group_bytes, group_symbols, is_padded, meaning}
use Rattle.data_encoding_meaning.specs.decoding.Decoding.{HasFault, HasNoLastRun, HasRoom, IsDecoded, IsDecodedGroup, IsGathered, IsLastRun, IsIgnoredFront, valid_front, HasDecodedTo}
use Rattle.data_encoding.specs.Calls.{DecodesText}
use Rattle.data_encoding.specs.Progress.{HasExactOutput}
use Rattle.data_encoding.specs.Steps.{HasStopped}
use Rattle.data_encoding_meaning.specs.decoding.Fault.{position_of}
use Rattle.data_encoding_meaning.specs.text.Grammar.{Positioned, bytes_in, kept, kept_from}
use Rattle.data_encoding_meaning.specs.text.Lengths.{decoded_len, greatest_valid_length, length_fault, most_bytes}
use Rattle.data_encoding_meaning.specs.decoding.Partial.{StopsAt, is_length_fault}
use Rattle.data_encoding_meaning.proofs.grammar.LengthLemmas.{decoded_len-counted, is_valid_length-by}
use Rattle.data_encoding_meaning.proofs.grammar.GroupLemmas.{GroupMeans-sound}
use Rattle.data_encoding_meaning.proofs.grammar.TightLemmas.{full-Means}
use Rattle.data_encoding_meaning.proofs.lists.WriteLemmas.{length-rewritten, length-rewritten_same, rewritten, take-rewritten}
use Rattle.data_encoding_meaning.proofs.decoding.GatherLemmas.{bytes-next, gathered-few, gathered-some, is-next, next_bytes, none-next, position-next}
use Rattle.data_encoding_meaning.proofs.decoding.GreatestLengthLemmas.{greatest-least, greatest-valid}
use Rattle.data_encoding_meaning.proofs.decoding.LastRunLemmas.{last-none, last-sound, last-unsound}
use Rattle.data_encoding_meaning.proofs.decoding.ProgressLemmas.{IsNext, after-group, at-end, room-group, room-run}
use Rattle.data_encoding_meaning.proofs.decoding.StopLemmas.{IsAtFault, at-fault_front}
use Rattle.data_encoding_meaning.proofs.grammar.KeptLemmas.{nothing-left}
use Rattle.data_encoding_meaning.proofs.decoding.IgnoredFrontLemmas.{gathered-after, nothing-after}

-- A decoding in progress: this much was read and written of a text whose length is not a fault, to
-- an output of exactly its size.
pub record IsUnderWay (base : Base) (text : List ℕ) (read written : ℕ) (ended : Bool)
    (output : List ℕ) : Type 0 where
  pub width : IsWidth base.width
  pub no_fault : length_fault base (length text) ≡ None
  pub size_is : most_bytes base (length text) ≡ length output
  pub so_far : HasDecodedTo base text read written ended output

pub under_way : {base : Base} {text : List ℕ} {read written : ℕ} {ended : Bool} {output : List ℕ}
    → IsWidth base.width → HasExactOutput base text output
    → HasDecodedTo base text read written ended output
    → IsUnderWay base text read written ended output
under_way {base} {text} {output} width exact so_far =
    let counted = decoded_len-counted base (length text) (length output) exact.len in
    record { width = width; no_fault = counted.0; size_is = counted.1; so_far = so_far }

-- a decoded text, as `decode_mut` returns it
pub decodes-text : {base : Base} → IsWidth base.width → {text old output : List ℕ} {written : ℕ}
    → IsDecoded base text written output → decoded_len base (length text) ≡ Ok (length output)
    → length output ≡ length old → DecodesText base text old output (Ok written)
decodes-text {base} width {text} {old} {output} {written} decoded due len =
    record {
      decoded = (decoded.fits, decoded.means);
      sound = (decoded.no_fault, decoded.bytes_are);
      accepted = λ bytes means. cc;
      fault = cc;
      partial = cc;
      bounds = cc;
      most = cc;
      full = λ unpadded none.
          full-Means base width unpadded none text output written due decoded.fits decoded.means;
      len = len;
    }

same-partial : (partial : DecodePartial) (read written : ℕ) (error : DecodeError)
    → partial.read ≡ read → partial.written ≡ written → partial.error ≡ error
    → record { read = read; written = written; error = error } ≡ partial
same-partial partial read written error h k l =
    λ i. record { read = sym h i; written = sym k i; error = sym l i }

-- no group is final if texts may follow, or if all its bytes are symbols
pub final-not : {own base : Base} (count len : ℕ) → own ≡ base
    → (own.concatenates ≡ true) ⊎ (len ≤ count)
    → (not base.concatenates && nat_lt count len) ≡ false
final-not count len same how =
    let joins = ap (λ (b : Base). b.concatenates) same in grind (arith, nat_tests, joins, how)

-- and otherwise it is
pub final-is : {own base : Base} (count len : ℕ) → own ≡ base → own.concatenates ≡ false
    → count < len → (not base.concatenates && nat_lt count len) ≡ true
final-is count len same apart padded =
    let joins = ap (λ (b : Base). b.concatenates) same in grind (arith, nat_tests, joins)

module _ {base : Base} {text : List ℕ} {read written : ℕ} {ended : Bool} {output : List ℕ}
    (s : IsUnderWay base text read written ended output) where
  -- if nothing is left, the text means what was written
  pub decoded : kept_from base read text ≡ [] → IsDecoded base text written output
  decoded none =
      let found = at-end base s.width text s.so_far s.no_fault none in
      record {
        fits = s.so_far.fits;
        no_fault = found.0;
        bytes_are = found.1;
        means = found.2;
      }

  -- also if no byte is left
  pub decoded-all : length text ≤ read → IsDecoded base text written output
  decoded-all past =
      let all : length text ≡ read = omega (arith, past, s.so_far.within) in
      decoded (rw (← all) (nothing-left base text))

  pub written-few : written ≤ length text
  written-few = omega (arith, s.so_far.fits, s.size_is, most_bytes-few base s.width (length text))

  -- if another output of that length holds it too
  further : {stop count : ℕ} {final : Bool} {new : List ℕ} → length new ≡ length output
      → HasDecodedTo base text stop count final new
      → IsUnderWay base text stop count final new
  further len so_far = record {
    width = s.width;
    no_fault = s.no_fault;
    size_is = s.size_is ∙ sym len;
    so_far = so_far;
  }

  -- nothing is left if nothing is gathered
  none-left : (start : ℕ) → start ≤ length text → {group : List ℕ} {span : ℕ}
      → IsGathered base (group_symbols base.width) (take (length text - start) (drop start text))
      group span
      → {empty : Bool} → empty ≡ (length group == 0) → empty ≡ true
      → kept_from base start text ≡ []
  none-left start within {group} {span} is empty_is empty =
      none-next base s.width text start within (rw (take_rest text start) at is)
      (eqb-true (length group) 0 (sym empty_is ∙ empty))

  -- a group of that many bytes has room, if it may have bytes
  pub room-group_of : (count : ℕ) → count ≤ length text - read
      → (is_padded base ≡ true → count % group_symbols base.width ≡ 0)
      → base.width * count / 8 ≤ length output - written
  room-group_of count few whole = by (is_padded base) refl where
    by : (b : Bool) → is_padded base ≡ b → base.width * count / 8 ≤ length output - written
    by true padded =
        let groups = count / group_symbols base.width in
        let all : groups * group_symbols base.width ≡ count =
        omega (arith, div-add-mod' count (group_symbols base.width), whole padded) in
        let room = room-run base s.width text s.so_far groups (omega (arith, all, few)) in
        rw (← all, whole_bytes base s.width groups) (omega (arith, room))
    by false unpadded = omega (arith, room-group base s.width text s.so_far count unpadded few)

  -- the longest prefix of valid length has that length
  front_len : length (valid_front base (drop read text))
      ≡ greatest_valid_length base (length (drop read text))
  front_len =
      length-take-le (greatest_valid_length base (length (drop read text))) (drop read text)
      (greatest-least base s.width (length (drop read text)))

  -- it has room, if it is one group
  room-last : HasRoom base (drop read text) (length output - written)
  room-last few =
      let len = length (drop read text) in
      room-group_of (length (valid_front base (drop read text)))
      (omega (arith, front_len, greatest-least base s.width len, length-drop read text))
      (λ padded. rw front_len (eqb-true (greatest_valid_length base len % _) 0
      (sym (is_valid_length-by base (greatest_valid_length base len) true padded)
      ∙ greatest-valid base s.width len)))

  module _ {group : List ℕ} {span : ℕ}
      (is : IsGathered base (group_symbols base.width) (take (length text - read) (drop read text))
      group span)
    where
      -- a text that ends there means what was written
      pub decoded-empty : {empty : Bool} → empty ≡ (length group == 0) → empty ≡ true
          → IsDecoded base text written output
      decoded-empty empty_is empty = decoded (none-left read s.so_far.within is empty_is empty)

      found_here : IsGathered base (group_symbols base.width) (drop read text) group span
      found_here = rw (take_rest text read) at is

      abbrev placed : List Positioned
      placed = next_bytes base text read span

      same_bytes : bytes_in placed ≡ group
      same_bytes = bytes-next base s.width text read s.so_far.within found_here

      next : 0 < length group → IsNext base text read (read + span) placed
      next some = is-next base s.width text read s.so_far.within found_here some

      -- a group has room
      pub room-next_group : (is_padded base ≡ true → length group ≡ group_symbols base.width)
          → base.width * length group / 8
          ≤ length (take (length output - written) (drop written output))
      room-next_group whole =
          let few : length group ≤ length text - read =
          omega (arith, gathered-few found_here, found_here.within, length-drop read text) in
          let room = room-group_of (length group) few
          (λ padded. rw (whole padded) (mod_self (group_symbols base.width))) in
          rw (take_rest output written)
          (omega (arith, room, length-drop written output))

      -- A faulty group stops the decoding.
      module _ {fault : GroupFault} (has : HasFault base ended group fault) where
        abbrev error : DecodeError
        error = record {
          position = read + position_of (kept base (drop read text)) fault.index;
          kind = fault.kind;
        }

        at : IsAtFault base text read written output error
        at = record {
          width = s.width;
          ended = ended;
          so_far = s.so_far;
          no_length_fault = s.no_fault;
          stop = read + span;
          group = placed;
          next = next (omega (arith, has.inside));
          faulty = rw (position-next base s.width text read s.so_far.within found_here fault.index
              has.inside) at (has.is_fault placed same_bytes);
        }

        -- if no last run is found
        stops-here : (new : List ℕ) → written ≤ length new
            → take written new ≡ take written output
            → (is_length_fault fault.kind ≡ true → HasNoLastRun base (drop read text))
            → StopsAt base text new (record { read = read; written = written; error = error })
        stops-here new fits same none = by (is_length_fault fault.kind) refl where
          by : (b : Bool) → is_length_fault fault.kind ≡ b
              → StopsAt base text new (record { read = read; written = written; error = error })
          by false is = at-fault_front at is new fits same
          by true is =
              last-unsound at is (omega (arith, front_len, (none is).0))
              (λ few. (none is).1 (omega (arith, front_len, few))) new fits same

        -- and if one is
        stops-after : (new : List ℕ) → take written new ≡ take written output
            → is_length_fault fault.kind ≡ true → (more : ℕ) → written + more ≤ length new
            → IsLastRun base (drop read text) more (drop written new)
            → StopsAt base text new
            (record { read = error.position; written = written + more; error = error })
        stops-after new same kind more fits (inl empty) =
            let none : written + more ≡ written = omega (arith, empty.1) in
            rw none (last-none at kind (sym front_len ∙ empty.0) new (omega (arith, fits)) same)
        stops-after new same kind more fits (inr run) =
            let count = base.width * run.2 / 8 in
            let bytes : written + more ≡ written + count = ap (λ n. written + n) run.4 in
            rw bytes
            (last-sound at kind (omega (arith, front_len, run.0)) (omega (arith, front_len, run.1))
            run.3.sound count new (omega (arith, fits, bytes))
            (take-add written count new ∙ (λ i. same i ++ run.3.bytes i)))

        -- whatever was written of it
        pub group-stopped : (rest : List ℕ)
            → length rest ≡ length (take (length output - written) (drop written output))
            → HasStopped base text (rewritten written output rest)
            (record { read = read; written = written; index = fault.index; kind = fault.kind })
        group-stopped rest rest_len =
            let same = length-rewritten_same written output rest s.so_far.fits rest_len in
            record {
              within = s.so_far.within;
              fits = omega (arith, same, s.so_far.fits);
              inside = gathered-some found_here fault.index has.inside;
              room = λ _. subst (λ n. HasRoom base (drop read text) (n - written)) (sym same)
                  room-last;
              stops = λ new partial fits front stop.
                  let kept = front ∙ take-put_mid_below written (length output - written) output
                  rest written (omega arith) s.so_far.fits in
                  ⊎_elim {C = StopsAt base text new partial}
                  (λ how.
                  subst (StopsAt base text new)
                  (same-partial partial read written error how.0 how.1 stop.error_is)
                  (stops-here new fits kept how.2))
                  (λ how.
                  subst (StopsAt base text new)
                  (same-partial partial error.position (written + how.2) error
                  (how.1 ∙ ap (λ (e : DecodeError). e.position) stop.error_is) how.3 stop.error_is)
                  (stops-after new kept how.0 how.2 how.4 how.5))
                  stop.how;
            }

-- if no final group came before
module _ {base : Base} {text : List ℕ} {read written : ℕ} {output : List ℕ}
    (s : IsUnderWay base text read written false output) where
  module _ {skip : ℕ} (front : IsIgnoredFront base (drop read text) skip) where
    abbrev start : ℕ
    start = read + skip

    start-within : read + skip ≤ length text
    start-within = omega (arith, front.within, s.so_far.within, length-drop read text)

    -- a run has room
    pub room-next_run : length (take (length text - (read + skip)) (drop (read + skip) text))
        / group_symbols base.width * group_bytes base.width
        ≤ length (take (length output - written) (drop written output))
    room-next_run =
        let dec = group_symbols base.width in
        let count = length (drop start text) / dec in
        let whole : count * dec ≤ length text - read =
        omega (arith, div-add-mod' (length (drop start text)) dec, length-drop start text) in
        rw (take_rest text start, take_rest output written)
        (omega (arith, room-run base s.width text s.so_far count whole, length-drop written output))

    -- nothing is left if nothing follows the ignored bytes
    pub decoded-after : length text ≤ read + skip → IsDecoded base text written output
    decoded-after past =
        let all : length text ≡ read + skip = omega (arith, past, start-within) in
        decoded s (nothing-after base text read skip s.so_far.within front
        (rw (← all) (nothing-left base text)))

    -- what is gathered there is gathered from before them
    module _ {group : List ℕ} {span : ℕ}
        (is : IsGathered base (group_symbols base.width)
        (take (length text - (read + skip)) (drop (read + skip) text)) group span) where
      found_after : IsGathered base (group_symbols base.width) (drop skip (drop read text)) group
          span
      found_after = rw (take_rest text start, ← drop-drop skip read text) at is

      pub gathered-next : 0 < length group
          → IsGathered base (group_symbols base.width) (take (length text - read) (drop read text))
          group
          (skip + span)
      gathered-next some =
          rw (take_rest text read)
          (gathered-after base (group_symbols base.width) (drop read text) group skip span front
          found_after
          (omega (arith, some, gathered-few found_after)))

      pub decoded-none : {empty : Bool} → empty ≡ (length group == 0) → empty ≡ true
          → IsDecoded base text written output
      decoded-none empty_is empty =
          decoded s (nothing-after base text read skip s.so_far.within front
          (none-left s start start-within is empty_is empty))

  -- what a group does
  module _ {group : List ℕ} {span : ℕ}
      (is : IsGathered base (group_symbols base.width) (take (length text - read) (drop read text))
      group span)
      (some : 0 < length group) {count : ℕ} {rest : List ℕ}
      (rest_len : length rest
      ≡ length (take (length output - written) (drop written output)))
      (has : IsDecodedGroup base group count rest) where
    whole : is_padded base ≡ true → length group ≡ group_symbols base.width
    whole padded =
        let len = length-map group (meaning base) in
        sym len
        ∙ (GroupMeans-sound base s.width (map (meaning base) group)
        (omega (arith, len, some)) (omega (arith, len, (found_here s is).few)) has.sound).is_whole
        padded

    few : base.width * count / 8 ≤ length rest
    few =
        omega (
          arith,
          mul-le-mul_left base.width has.within,
          room-next_group s is whole,
          rest_len,
        )

    pub after_group : (stop : ℕ) {final : Bool} → read + span ≡ stop
        → (not base.concatenates && nat_lt count (length group)) ≡ final
        → IsUnderWay base text stop (written + base.width * count / 8) final
        (rewritten written output rest)
    after_group stop {final} place is_final =
        let new = rewritten written output rest in
        let fits = length-rewritten written output rest s.so_far.fits in
        let same = same_bytes s is in
        further s (length-rewritten_same written output rest s.so_far.fits rest_len)
        (rw (← place, ← is_final, ← has.final, ← same)
        (after-group base s.width text (base.width * count / 8) new s.so_far (next s is some)
        (rw (same, has.sound))
        (omega (arith, few, fits))
        (take-rewritten written output rest s.so_far.fits (base.width * count / 8)
        ∙ ap (λ l. take written output ++ l) (rw (has.bytes, ← same)))))

-- what is found is a group if it is not empty
pub some-group : {base : Base} {size : ℕ} {part group : List ℕ} {span : ℕ} {empty : Bool}
    → IsGathered base size part group span → empty ≡ (length group == 0) → empty ≡ false
    → 0 < length group
some-group {group} is empty_is some =
    let none : (length group == 0) ≡ false = sym empty_is ∙ some in
    grind (arith, nat_tests)
