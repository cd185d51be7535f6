-- Whole groups of the kept bytes of a part, and where they stand in the text.
use Rattle.std.proofs.Common.{◌≡◌, ℕ, zero, suc, ◌+◌, ◌-◌, ◌%◌, ◌<◌, ◌≤◌, Bool, false, List, [], ◌∷◌, ◌++◌, length, map, take, drop, get_or, refl, sym, ap, ◌∙◌, arith, subst, inl, length-append, length-take-le}
use Rattle.std.specs.Prelude.{flat_map}
use Rattle.std.proofs.Math.Nat.{add-mod, zero-mod}
use Rattle.std.proofs.Math.Seq.{take-suc}
use Rattle.std.proofs.lemmas.List.{append-nil, drop-drop, get_or-take, length-drop, length-map, length-take, map-append, nil_from_length, take-take, take_at, take_rest}
use Rattle.std.proofs.lemmas.List.Concat.{flat_map-append}
use Rattle.std.proofs.lemmas.List.Folds.{flat_map-map}
use Rattle.data_encoding_meaning.specs.declared.encoding.Character.{Character}
use Rattle.data_encoding_meaning.specs.text.Base.{Base, IsWidth, group_symbols, is_ignored, meaning}
use Rattle.data_encoding_meaning.specs.text.Bits.{runs}
use Rattle.data_encoding_meaning.specs.text.Grammar.{Positioned, bytes_in, ends_text, groups, is_final, kept, kept_from, kept_in, meanings_in}
use Rattle.data_encoding_meaning.specs.decoding.Decoding.{HasDecodedTo, IsGathered, IsIgnoredFront}
use Rattle.data_encoding_meaning.specs.decoding.Fault.{AreSound, bytes_of_group, character_fault, located, symbol_bytes}
use Rattle.data_encoding_meaning.specs.decoding.Partial.{position_after}
use Rattle.data_encoding_meaning.proofs.decoding.GatherLemmas.{HasGathered, gathered-few}
use Rattle.data_encoding_meaning.proofs.decoding.IgnoredFrontLemmas.{gathered-after, nothing-kept_in}
use Rattle.data_encoding_meaning.proofs.decoding.ProgressLemmas.{IsPart, whole-before}
use Rattle.data_encoding_meaning.proofs.digits.WidthLemmas.{group_symbols-pos}
use Rattle.data_encoding_meaning.proofs.grammar.KeptLemmas.{kept-more, kept-split, kept_in-append, position_after-append}
use Rattle.data_encoding_meaning.proofs.grammar.PositionLemmas.{length-by_bytes, runs-meanings}
use Rattle.data_encoding_meaning.proofs.grammar.SameBytesLemmas.{bytes-kept_in}
use Rattle.data_encoding_meaning.proofs.grammar.SoundLemmas.{AreSound-append, fault_after-none}
use Rattle.data_encoding_meaning.proofs.lists.RunLemmas.{runs-join}
use Rattle.data_encoding_meaning.proofs.lists.WriteLemmas.{length-rewritten, rewritten, take-rewritten}
use Rattle.data_encoding.specs.declared.decode.groups.Groups.{Groups}
use Rattle.data_encoding.specs.declared.decode.decoding_loop.Progress.{Progress}
use Rattle.data_encoding.specs.Groups.{EndsBefore, HasReadGroups, NoneIgnored}
use Rattle.data_encoding.specs.Progress.{HasReached}
use Rattle.data_encoding.proofs.decoding.ReadGroupLemmas.{gathered-here, plain-bytes}

-- Groups that mean the same are sound alike, wherever they stand.
AreSound-alike : (base : Base) (gs hs : List (List Positioned)) (begun ended : Bool)
    → map (meanings_in base) gs ≡ map (meanings_in base) hs
    → AreSound base begun gs ended → AreSound base begun hs ended
AreSound-alike base [] [] begun ended e sound = sound
AreSound-alike base [] (h ∷ hs) begun ended e sound = absurd (omega (arith, ap length e))
AreSound-alike base (g ∷ gs) [] begun ended e sound = absurd (omega (arith, ap length e))
AreSound-alike base (g ∷ gs) (h ∷ hs) begun ended e sound =
    let none : List Character = [] in
    let first : meanings_in base g ≡ meanings_in base h = ap (λ l. get_or l 0 none) e in
    let both = fault_after-none base begun g sound.0 in (
      rw both.0 (ap (located h) (ap (character_fault base) (sym first) ∙ both.1)),
      subst (λ b. AreSound base b hs ended) (ap (ends_text base) first)
          (AreSound-alike base gs hs (is_final base g) ended (ap (drop 1) e) sound.1),
    )

-- and mean the same bytes
bytes-alike : (base : Base) (gs hs : List (List Positioned))
    → map (meanings_in base) gs ≡ map (meanings_in base) hs
    → flat_map (bytes_of_group base) gs ≡ flat_map (bytes_of_group base) hs
bytes-alike base gs hs e =
    sym (flat_map-map (symbol_bytes base) (meanings_in base) gs)
    ∙ ap (flat_map (symbol_bytes base)) e
    ∙ flat_map-map (symbol_bytes base) (meanings_in base) hs

-- the kept bytes of a part that ends with one of them end where it does
kept-ends : (base : Base) (read : ℕ) (xs : List ℕ) (n : ℕ) → n ≤ length xs
    → (0 < n → is_ignored (meaning base (get_or xs (n - 1) 0)) ≡ false)
    → 0 < length (kept_in base read (take n xs))
    → position_after (kept_in base read (take n xs)) ≡ read + n
kept-ends base read xs zero few ends some = absurd (omega (arith, some))
kept-ends base read xs (suc n) few ends some =
    let front = take n xs in
    let byte = get_or xs n 0 in
    let place : n ≡ suc n - 1 = omega arith in
    let last : is_ignored (meaning base byte) ≡ false = rw place (ends (omega arith)) in
    let front_len : length front ≡ n = length-take-le n xs (omega (arith, few)) in
    let split = take-suc xs n 0 (omega (arith, few)) in
    rw (split, kept_in-append base read front (byte ∷ []), last)
    (position_after-append (kept_in base read front)
    (record { position = read + length front; byte = byte } ∷ []) (omega arith)
    ∙ omega (arith, front_len))

-- Whole sound groups, gathered among ignored bytes that precede and separate them: a text is
-- decoded to the end of the last, if their bytes were written.
after-gathered : (base : Base) → IsWidth base.width → (text : List ℕ)
    → {read written size span : ℕ} {group old : List ℕ} (count : ℕ) (new : List ℕ)
    → HasDecodedTo base text read written false old
    → IsGathered base size (drop read text) group span
    → 0 < length group → length group % group_symbols base.width ≡ 0
    → NoneIgnored base group → AreSound base false (groups base group) false
    → written + count ≤ length new
    → take (written + count) new
    ≡ take written old ++ flat_map (bytes_of_group base) (groups base group)
    → HasDecodedTo base text (read + span) (written + count) false new
after-gathered base width text {read} {written} {size} {span} {group} {old} count new so_far is
    many whole plain sound fits writes =
    let dec = group_symbols base.width in
    let pos : 0 < dec = group_symbols-pos base.width width in
    let stop = read + span in
    let rest = drop read text in
    let part = kept_in base read (take span rest) in
    let bytes_are : bytes_in part ≡ group =
    bytes-kept_in base read (take span rest) ∙ sym (bytes-kept_in base 0 (take span rest))
    ∙ is.bytes_are in
    let len : length part ≡ length group = length-by_bytes part group bytes_are in
    let some : 0 < length part = omega (arith, len, many) in
    let place : stop - read ≡ span = omega arith in
    let next : IsPart base text read stop part = record {
      after = omega arith;
      within = omega (arith, is.within, length-drop read text, so_far.within);
      is_kept = rw place;
      some = some;
      ends = kept-ends base read rest span is.within is.ends some;
    } in
    let before = whole-before base width text so_far next in
    let parts : kept base (take stop text) ≡ kept base (take read text) ++ part =
    rw next.is_kept (kept-more base read text so_far.within stop next.after next.within) in
    let more : groups base (take stop text) ≡ groups base (take read text) ++ runs dec part =
    rw parts (runs-join dec (kept base (take read text)) part pos before) in
    let alike : meanings_in base (kept base group) ≡ meanings_in base part =
    ap (map (meaning base)) (plain-bytes base group plain ∙ sym bytes_are) in
    let all : map (meanings_in base) (groups base group) ≡ map (meanings_in base) (runs dec part) =
    rw (
      ← (runs-meanings base dec (kept base group) pos),
      ← (runs-meanings base dec part pos),
      alike,
    ) refl in
    record {
      within = next.within;
      sound = rw more
          (AreSound-append base false false false (groups base (take read text)) (runs dec part)
          so_far.sound (AreSound-alike base (groups base group) (runs dec part) false false all
          sound));
      whole = inl (rw (parts, length-append, add-mod, before, len, whole) (zero-mod dec));
      ends = rw parts
          (position_after-append (kept base (take read text)) part some ∙ next.ends);
      fits = fits;
      writes = rw (more, flat_map-append, ← so_far.writes)
          (writes
          ∙ ap (λ l. take written old ++ l)
          (bytes-alike base (groups base group) (runs dec part) all));
    }

-- Groups of the kept bytes after what was read: the text is decoded to the end of the last.
pub placed : {base : Base} → IsWidth base.width → {text output : List ℕ} {at : Progress}
    → HasReached base text at output → (new : List ℕ)
    → length new ≡ length (take (length output - at.written) (drop at.written output))
    → {bytes : List ℕ} {found : Groups} → HasReadGroups base bytes found new → 0 < found.read
    → (span : ℕ)
    → IsGathered base found.read (drop (at.read + at.ignored) text) (take found.read bytes) span
    → HasDecodedTo base text (at.read + at.ignored + span) (at.written + found.written) false
    (rewritten at.written output new)
placed {base} width {text} {output} {at} reached new new_len {bytes} {found} is some span here =
    let group = take found.read bytes in
    let len : length group ≡ found.read =
    length-take-le found.read bytes is.so_far.within in
    let fits = reached.so_far.fits in
    let place : at.read + (at.ignored + span) ≡ at.read + at.ignored + span = omega arith in
    let from = gathered-after base found.read (drop at.read text) group at.ignored span
    reached.front (rw (drop-drop at.ignored at.read text) here)
    (omega (arith, len, some, gathered-few here)) in
    rw place at (after-gathered base width text found.written (rewritten at.written output new)
    reached.so_far from (omega (arith, len, some)) (rw len is.whole) is.plain is.so_far.sound
    (omega (arith, length-rewritten at.written output new fits, is.so_far.fits))
    (take-rewritten at.written output new fits found.written
    ∙ ap (λ l. take at.written output ++ l) is.so_far.writes))

-- Groups that stand where they are read.
pub placed-here : {base : Base} → IsWidth base.width → {text output : List ℕ} {at : Progress}
    → HasReached base text at output → (new : List ℕ)
    → length new ≡ length (take (length output - at.written) (drop at.written output))
    → (n : ℕ) {found : Groups}
    → HasReadGroups base (take n (take (length text - (at.read + at.ignored))
    (drop (at.read + at.ignored) text))) found new
    → 0 < found.read
    → HasDecodedTo base text (at.read + at.ignored + found.read) (at.written + found.written) false
    (rewritten at.written output new)
placed-here {base} width {text} {at = at} reached new new_len n {found} is some =
    let rest = drop (at.read + at.ignored) text in
    let slice = take_rest text (at.read + at.ignored) in
    let here = rw slice at is in
    let few : found.read ≤ n = omega (arith, here.so_far.within, length-take n rest) in
    let within : found.read ≤ length rest =
    omega (arith, here.so_far.within, length-take n rest) in
    let same : take found.read (take n rest) ≡ take found.read rest =
    take-take found.read n rest few in
    placed width reached new new_len here some found.read
    (rw same (gathered-here base found.read rest within (rw same at here.plain)))

-- Without the last of the gathered bytes, those before them are gathered.
gathered-before : {base : Base} {part bytes : List ℕ} {span last short : ℕ}
    → bytes_in (kept base (take span part)) ≡ bytes → span ≤ length part
    → EndsBefore base (take span part) last short → short ≤ length (take span part)
    → (count : ℕ) → length bytes ≡ count + last
    → IsGathered base count part (take count bytes) short
gathered-before {base} {part} {bytes} {span} {last} {short} are within ends inside count many =
    let front = take span part in
    let first = kept base (take short front) in
    let rest = kept_from base short front in
    let byte_of : Positioned → ℕ = λ k. k.byte in
    let few : short ≤ span = omega (arith, inside, length-take-le span part within) in
    let all = length-by_bytes (kept base front) bytes are in
    let first_len : length first ≡ count = omega (arith, ends.before, all, many) in
    let first_bytes : length (bytes_in first) ≡ count = length-map first byte_of ∙ first_len in
    let parts : bytes ≡ bytes_in first ++ bytes_in rest =
    sym are ∙ ap bytes_in (kept-split base short front inside) ∙ map-append byte_of first rest in
    let front_is : take short front ≡ take short part = take-take short span part few in
    let taken : take count bytes ≡ bytes_in first =
    ap (take count) parts ∙ take_at (bytes_in first) (bytes_in rest) count first_bytes in
    record {
      within = omega (arith, few, within);
      bytes_are = ap (λ l. bytes_in (kept base l)) (sym front_is) ∙ sym taken;
      ends = λ some.
          rw (get_or-take span part (short - 1) 0 (omega (arith, some, few))) at (ends.ends some);
      few = omega (arith, ap length taken, first_bytes);
      last = inl (ap length taken ∙ first_bytes);
    }

-- how many bytes of a part are not ignored, wherever it stands
length-kept_in : (base : Base) (start : ℕ) (part : List ℕ)
    → length (kept_in base start part) ≡ length (kept base part)
length-kept_in base start part =
    sym (length-map (kept_in base start part) _)
    ∙ ap length (bytes-kept_in base start part ∙ sym (bytes-kept_in base 0 part))
    ∙ length-map (kept base part) _

-- a text up to a position has those before another one, and those between
pub kept-count : (base : Base) (read stop : ℕ) (text : List ℕ) → read ≤ stop
    → stop ≤ length text → length (kept base (take stop text))
    ≡ length (kept base (take read text))
    + length (kept base (take (stop - read) (drop read text)))
kept-count base read stop text after inside =
    let part = take (stop - read) (drop read text) in
    ap length (kept-more base read text (omega arith) stop after inside)
    ∙ length-append (kept base (take read text)) (kept_in base read part)
    ∙ ap (λ n. length (kept base (take read text)) + n) (length-kept_in base read part)

-- What ends before the last bytes of a front ends before these and those after the front.
pub ends-further : {base : Base} {part : List ℕ} {end left last span : ℕ} → end ≤ length part
    → span ≤ length (take end part) → EndsBefore base (take end part) left span → left ≤ last
    → length (kept base (take end part)) + (last - left) ≡ length (kept base part)
    → EndsBefore base part last span
ends-further {base} {part} {end} {left} {last} {span} within few ends less same =
    let inside : span ≤ end = omega (arith, few, length-take-le end part within) in
    record {
      before = omega (
        arith,
        rw (take-take span end part inside) at ends.before,
        same,
        less,
      );
      ends = λ some.
          rw (get_or-take end part (span - 1) 0 (omega (arith, some, inside)))
          at (ends.ends some);
    }

-- What was gathered before ignored bytes was gathered up to their end.
pub gather-front : {base : Base} {part : List ℕ} {index count span : ℕ} {room : List ℕ} (skip : ℕ)
    → HasGathered base part index count span room → index ≤ length part
    → IsIgnoredFront base (drop index part) skip
    → HasGathered base part (index + skip) count span room
gather-front {base} {part} {index} skip so_far within front =
    let next = take skip (drop index part) in
    let width : index + skip - index ≡ skip = omega arith in
    let inside : index + skip ≤ length part =
    omega (arith, within, front.within, length-drop index part) in
    let more = rw width at (kept-more base index part within (index + skip) (omega arith) inside) in
    let same : kept base (take (index + skip) part) ≡ kept base (take index part) =
    more
    ∙ ap (λ l. kept base (take index part) ++ l) (nothing-kept_in base index next front.none)
    ∙ append-nil (kept base (take index part)) in
    record {
      before = omega (arith, so_far.before);
      same = so_far.same ∙ sym same;
      bytes_are = rw same so_far.bytes_are;
      count_is = rw same so_far.count_is;
      ends = so_far.ends;
    }

-- The first `count` bytes of `packed` are the kept bytes of the first `span` bytes of `rest`.
pub record IsPacked (base : Base) (rest packed : List ℕ) (count span : ℕ) : Type 0 where
  pub few : count ≤ length packed
  pub within : span ≤ length rest
  pub are : bytes_in (kept base (take span rest)) ≡ take count packed

-- Packed bytes are decoded: the text up to `read` and, if those are all, up to the ignored bytes.
pub record IsPackedTo (base : Base) (text : List ℕ) (read written ignored : ℕ) (all : Type 0)
    (output : List ℕ) : Type 0 where
  pub so_far : HasDecodedTo base text read written false output
  pub front : all → IsIgnoredFront base (drop read text) ignored

-- The groups of packed bytes are placed in the text, after the groups before them.
pub packed-to : {base : Base} (width : IsWidth base.width) {text output : List ℕ} {at : Progress}
    (reached : HasReached base text at output) (new : List ℕ)
    → length new ≡ length (take (length output - at.written) (drop at.written output))
    → {packed : List ℕ} {count span : ℕ}
    → IsPacked base (drop (at.read + at.ignored) text) packed count span
    → {found : Groups} → HasReadGroups base (take count packed) found new → 0 < found.read
    → {end : ℕ}
    → EndsBefore base (take span (drop (at.read + at.ignored) text)) (count - found.read) end
    → end ≤ length (take span (drop (at.read + at.ignored) text))
    → IsPackedTo base text (at.read + at.ignored + end) (at.written + found.written)
    (span - end) (found.read ≡ count) (rewritten at.written output new)
packed-to {base} width {text} {output} {at} reached new new_len {packed} {count} {span} is_packed
    {found} is some {end} before inside =
    let rest = drop (at.read + at.ignored) text in
    let packed_len : length (take count packed) ≡ count =
    length-take-le count packed is_packed.few in
    let len = length-take-le span rest is_packed.within in
    let short : end ≤ span = omega (arith, inside, len) in
    let front : take end (take span rest) ≡ take end rest = take-take end span rest short in
    let kept_end = rw front at before.before in
    let more = kept-count base end span rest short is_packed.within in
    record {
      so_far = placed width reached new new_len is some end
          (gathered-before is_packed.are is_packed.within before inside found.read
          (omega (arith, packed_len, is.so_far.within)));
      -- the bytes after the last kept one are ignored
      front = λ all.
          rw (← (drop-drop end (at.read + at.ignored) text)) (record {
            within = omega (arith, is_packed.within, length-drop end rest);
            none = nil_from_length (kept base (take (span - end) (drop end rest)))
                (omega (arith, kept_end, more, all));
          });
    }
