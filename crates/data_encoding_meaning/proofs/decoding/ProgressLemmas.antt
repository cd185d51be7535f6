-- How far a decoding has come: the step of a run, of a group, the end, and the first fault.
use Rattle.std.proofs.Common.{◌≡◌, ℕ, suc, ◌+◌, ◌-◌, ◌*◌, ◌/◌, ◌%◌, ◌<◌, ◌≤◌, ◌⊎◌, Bool, true, false, List, [], ◌∷◌, ◌++◌, length, take, drop, get_or, None, refl, sym, ap, ◌∙◌, subst, arith, length-append, length-take-le, ⊎_elim, inl, inr}
use Rattle.std.proofs.lemmas.Bool.{false≢true}
use Rattle.std.proofs.lemmas.List.{length-drop, append-nil, drop-drop, get_or-take}
use Rattle.std.proofs.Math.Seq.{take-add}
use Rattle.std.proofs.lemmas.List.Concat.{flat_map-append}
use Rattle.std.proofs.Math.Nat.{zero-mod, add-mod, mul-le-mul_left, mul-le-mul_right, mul-mod_left, mod_self}
use Rattle.std.proofs.lemmas.Nat.{div-add-mod'}
use Rattle.std.specs.Prelude.{flat_map}
use Rattle.data_encoding_meaning.specs.text.Base.{Base, meaning, is_symbol, is_padded, group_bytes, group_symbols, IsWidth}
use Rattle.data_encoding_meaning.specs.text.Bits.{runs}
use Rattle.data_encoding_meaning.specs.text.Grammar.{Positioned, positioned_from, kept, groups, is_final, Means, kept_in, kept_from, meanings_in}
use Rattle.data_encoding_meaning.specs.text.Lengths.{length_fault, most_bytes}
use Rattle.data_encoding_meaning.specs.decoding.Fault.{fault_after, bytes_of_group, fault_of, sound_bytes, AreSound}
use Rattle.data_encoding_meaning.specs.decoding.Partial.{position_after}
use Rattle.data_encoding_meaning.specs.decoding.Decoding.{HasDecodedTo, IsIgnoredFront, run_bytes}
use Rattle.data_encoding_meaning.proofs.digits.WidthLemmas.{group_bits, group_symbols-pos}
use Rattle.data_encoding_meaning.proofs.lists.RunLemmas.{runs-nil, runs-join, runs-short, flat_map-runs}
use Rattle.data_encoding_meaning.proofs.lists.EndLemmas.{AllSo}
use Rattle.data_encoding_meaning.proofs.grammar.PositionLemmas.{length-kept, length-positioned_from, length-meanings}
use Rattle.data_encoding_meaning.proofs.grammar.KeptLemmas.{between, kept_in-append, kept-split, kept-more, kept_from-more, position_after-append, position_after-positioned}
use Rattle.data_encoding_meaning.proofs.grammar.GroupLemmas.{GroupMeans-sound}
use Rattle.data_encoding_meaning.proofs.grammar.MeaningLemmas.{Means-no_fault}
use Rattle.data_encoding_meaning.proofs.grammar.SoundLemmas.{AreSound-append, fault_after-none, first-none, sound-all}
use Rattle.data_encoding_meaning.proofs.grammar.WholeGroupLemmas.{AreSound-symbols, symbols-positioned, kept_in-symbols, run_bytes-positioned}
use Rattle.data_encoding_meaning.proofs.decoding.IgnoredFrontLemmas.{nothing-kept_in}
use Rattle.data_encoding_meaning.proofs.decoding.RoomLemmas.{length-bytes_of_groups, room-bits, room-plain, room-whole}

-- These are the kept bytes from one position to another, which is just after the last of them.
pub record IsPart (base : Base) (text : List ℕ) (read stop : ℕ) (part : List Positioned)
    : Type 0 where
  pub after : read ≤ stop
  pub within : stop ≤ length text
  pub is_kept : part ≡ kept_in base read (between read stop text)
  pub some : 0 < length part
  pub ends : position_after part ≡ stop

-- They are the next group: a whole one, or the last.
pub record IsNext (base : Base) (text : List ℕ) (read stop : ℕ) (group : List Positioned)
    : Type 0 where
  pub is_part : IsPart base text read stop group
  pub few : length group ≤ group_symbols base.width
  pub last : (length group ≡ group_symbols base.width) ⊎ (kept_from base stop text ≡ [])

all_at : (test : ℕ → Bool) (xs : List ℕ)
    → ((k : ℕ) → k < length xs → test (get_or xs k 0) ≡ true) → AllSo test xs
all_at test [] h = tt
all_at test (x ∷ xs) h =
    (h 0 (omega arith), all_at test xs (λ k less. h (suc k) (omega (arith, less))))

module _ (base : Base) (width : IsWidth base.width) (text : List ℕ) where
  abbrev enc : ℕ
  enc = group_bytes base.width

  abbrev dec : ℕ
  dec = group_symbols base.width

  pos : 0 < dec
  pos = group_symbols-pos base.width width

  no_groups : runs {X = Positioned} dec [] ≡ []
  no_groups = runs-nil {X = Positioned} dec pos

  pub begin : (output : List ℕ) → HasDecodedTo base text 0 0 false output
  begin output = record {
    within = omega arith;
    sound = subst (λ gs. AreSound base false gs false) (sym no_groups) refl;
    whole = inl (zero-mod dec);
    ends = refl;
    fits = omega arith;
    writes = ap (flat_map (bytes_of_group base)) (sym no_groups);
  }

  -- another output that starts with the same bytes
  pub same-output : {read written : ℕ} {ended : Bool} {old : List ℕ} (new : List ℕ)
      → HasDecodedTo base text read written ended old
      → written ≤ length new → take written new ≡ take written old
      → HasDecodedTo base text read written ended new
  same-output new so_far fits same = record {
    within = so_far.within;
    sound = so_far.sound;
    whole = so_far.whole;
    ends = so_far.ends;
    fits = fits;
    writes = same ∙ so_far.writes;
  }

  module _ {read written stop : ℕ} {begun : Bool} {old : List ℕ} {part : List Positioned}
      (so_far : HasDecodedTo base text read written begun old)
      (next : IsPart base text read stop part) where
    -- while something is left, whole groups were read
    pub whole-before : length (kept base (take read text)) % dec ≡ 0
    whole-before =
        let left = simp length-append at (ap length
        (kept_from-more base read text so_far.within stop next.after next.within)) in
        ⊎_elim {C = length (kept base (take read text)) % dec ≡ 0} (λ whole. whole)
        (λ all.
        absurd (omega (arith, next.some, left, ap length next.is_kept, ap length all.0)))
        so_far.whole

    parts : kept base (take stop text) ≡ kept base (take read text) ++ part
    parts = rw next.is_kept (kept-more base read text so_far.within stop next.after next.within)

    more : groups base (take stop text) ≡ groups base (take read text) ++ runs dec part
    more = rw parts (runs-join dec (kept base (take read text)) part pos whole-before)

    advance : (count : ℕ) (ended : Bool) (new : List ℕ)
        → AreSound base begun (runs dec part) ended
        → (length part % dec ≡ 0) ⊎ ((kept_from base stop text ≡ []) × (is_padded base ≡ false))
        → written + count ≤ length new
        → take (written + count) new
        ≡ take written old ++ flat_map (bytes_of_group base) (runs dec part)
        → HasDecodedTo base text stop (written + count) ended new
    advance count ended new sound last fits writes = record {
      within = next.within;
      sound = rw more
          (AreSound-append base false begun ended (groups base (take read text)) (runs dec part)
          so_far.sound sound);
      whole = ⊎_elim {C = (length (kept base (take stop text)) % dec ≡ 0)
          ⊎ ((kept_from base stop text ≡ []) × (is_padded base ≡ false))}
          (λ (all : length part % dec ≡ 0).
          inl (rw (parts, length-append, add-mod, whole-before, all) (zero-mod dec)))
          (λ all. inr all) last;
      ends = rw parts
          (position_after-append (kept base (take read text)) part next.some ∙ next.ends);
      fits = fits;
      writes = rw (more, flat_map-append, ← so_far.writes) writes;
    }

  -- this many whole groups of symbols only, after ignored bytes
  pub after-run : {read written skip : ℕ} (count : ℕ) {old : List ℕ} (new : List ℕ)
      → HasDecodedTo base text read written false old
      → IsIgnoredFront base (drop read text) skip
      → 0 < count
      → count * dec ≤ length text - (read + skip)
      → ((k : ℕ) → k < count * dec
      → is_symbol (meaning base (get_or (drop (read + skip) text) k 0)) ≡ true)
      → written + count * enc ≤ length new
      → take (written + count * enc) new
      ≡ take written old ++ run_bytes base (take (count * dec) (drop (read + skip) text))
      → HasDecodedTo base text (read + skip + count * dec) (written + count * enc) false new
  after-run {read} {written} {skip} count {old} new so_far front many room symbols fits writes =
      let n = count * dec in
      let start = read + skip in
      let part = take n (drop start text) in
      let start_in : start ≤ length text =
      omega (arith, front.within, so_far.within, length-drop read text) in
      let part_len : length part ≡ n =
      length-take-le n (drop start text) (omega (arith, length-drop start text, room)) in
      let some : 0 < n = omega (arith, mul-le-mul_right dec many, pos) in
      let all = all_at (λ byte. is_symbol (meaning base byte)) part
      (λ k less. let inside : k < n = omega (arith, less, part_len) in
      rw (get_or-take n (drop start text) k 0 inside) (symbols k inside)) in
      let width_is : start + n - read ≡ skip + n = omega arith in
      let place : read + length (take skip (drop read text)) ≡ start =
      omega (arith, length-take-le skip (drop read text) front.within) in
      let parts : kept_in base read (between read (start + n) text) ≡ positioned_from start part =
      rw (width_is, take-add skip n (drop read text), drop-drop skip read text)
      (rw (kept_in-append base read (take skip (drop read text)) part)
      (rw (nothing-kept_in base read (take skip (drop read text)) front.none, place)
      (kept_in-symbols base start part all))) in
      let len : length (positioned_from start part) ≡ n =
      length-positioned_from start part ∙ part_len in
      advance so_far
      (record {
        after = omega arith;
        within = omega (arith, start_in, room);
        is_kept = sym parts;
        some = omega (arith, len, some);
        ends = rw part_len at
            (position_after-positioned start part (omega (arith, part_len, some)));
      })
      (count * enc) false new
      (AreSound-symbols base width count (positioned_from start part) len
      (symbols-positioned base start part all))
      (inl (rw len (mul-mod_left count dec)))
      fits
      (rw writes (ap (λ l. take written old ++ l) (run_bytes-positioned base width start part)))

  -- a group more
  pub after-group : {read written stop : ℕ} (count : ℕ) {begun : Bool} {group : List Positioned}
      {old : List ℕ} (new : List ℕ) → HasDecodedTo base text read written begun old
      → IsNext base text read stop group → fault_after begun base group ≡ None
      → written + count ≤ length new
      → take (written + count) new ≡ take written old ++ bytes_of_group base group
      → HasDecodedTo base text stop (written + count) (is_final base group) new
  after-group {written} {stop} count {begun} {group} {old} new so_far next sound fits writes =
      let one : runs dec group ≡ group ∷ [] = runs-short dec group next.is_part.some next.few in
      advance so_far next.is_part count (is_final base group) new
      (rw one (sound, refl))
      (by (is_padded base) refl next.last)
      fits
      (rw (one, append-nil) writes) where
        by : (b : Bool) → is_padded base ≡ b
            → (length group ≡ dec) ⊎ (kept_from base stop text ≡ [])
            → (length group % dec ≡ 0)
            ⊎ ((kept_from base stop text ≡ []) × (is_padded base ≡ false))
        by true is last =
            let len = length-meanings base group in
            let means = GroupMeans-sound base width (meanings_in base group)
            (omega (arith, len, next.is_part.some)) (omega (arith, len, next.few))
            (fault_after-none base begun group sound).1 in
            inl (rw (← len, means.is_whole is) (mod_self dec))
        by false is (inl whole) = inl (rw whole (mod_self dec))
        by false is (inr none) = inr (none, is)

  module _ {read written : ℕ} {ended : Bool} {output : List ℕ}
      (so_far : HasDecodedTo base text read written ended output) where
    pub written_len : length (take written output) ≡ written
    written_len = length-take-le written output so_far.fits

    few_kept : length (kept base (take read text)) ≤ read
    few_kept =
        omega (arith, length-kept base (take read text), length-take-le read text so_far.within)

    few_written : 8 * written ≤ base.width * length (kept base (take read text))
    few_written =
        let bits = length-bytes_of_groups base (groups base (take read text)) in
        rw (← so_far.writes, written_len, flat_map-runs dec (kept base (take read text)) pos) at
        bits

    few_bits : 8 * written ≤ base.width * read
    few_bits = omega (arith, few_written, mul-le-mul_left base.width few_kept)

    -- there is room for the groups that are left
    pub room-run : (count : ℕ) → count * dec ≤ length text - read
        → written + count * enc ≤ most_bytes base (length text)
    room-run count h = by (is_padded base) refl where
      by : (b : Bool) → is_padded base ≡ b → written + count * enc ≤ most_bytes base (length text)
      by false is =
          rw is (room-plain base.width enc dec (length text) read written
          (group_bits base.width width) so_far.within few_bits count h)
      by true is =
          let many = length (kept base (take read text)) in
          let whole : many % dec ≡ 0 =
          ⊎_elim {C = many % dec ≡ 0} (λ exact. exact)
          (λ all. absurd (false≢true (sym all.1 ∙ is))) so_far.whole in
          let exact : many / dec * dec ≡ many = omega (arith, div-add-mod' many dec, whole) in
          rw is (room-whole base.width enc dec (length text) read written
          (group_bits base.width width) so_far.within pos (many / dec) count
          (rw exact few_written) (omega (arith, exact, few_kept)) h)

    -- and for the last of an unpadded text, which may be shorter
    pub room-group : (count : ℕ) → is_padded base ≡ false → count ≤ length text - read
        → written + base.width * count / 8 ≤ most_bytes base (length text)
    room-group count is h =
        let bits = room-bits base.width enc dec (length text) read written
        (group_bits base.width width) so_far.within few_bits count h in
        rw is (omega (arith, bits))

    -- the bytes of what was read
    pub sound_bytes-front : sound_bytes base (take read text) ≡ take written output
    sound_bytes-front =
        ap (flat_map (bytes_of_group base))
        (sound-all base false ended (groups base (take read text)) so_far.sound)
        ∙ sym so_far.writes

    -- if nothing is left, the text has no fault, and means what was written
    pub at-end : length_fault base (length text) ≡ None → kept_from base read text ≡ []
        → (fault_of base text ≡ None) × (sound_bytes base text ≡ take written output)
        × Means base text (take written output)
    at-end no_length_fault none_left =
        let front : kept base text ≡ kept base (take read text) =
        kept-split base read text so_far.within ∙ rw none_left (append-nil _) in
        let fine : fault_of base text ≡ None =
        rw (no_length_fault, front)
        (first-none base false ended (groups base (take read text)) so_far.sound) in
        let bytes : sound_bytes base text ≡ take written output = rw front sound_bytes-front in
        (fine, bytes, subst (Means base text) bytes (Means-no_fault base width text fine))
