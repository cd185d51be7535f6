-- Whole groups that stand one after another: what a run and a padded group add to them.
use Rattle.std.proofs.Common.{◌≡◌, ℕ, zero, suc, ◌+◌, ◌-◌, ◌*◌, ◌/◌, ◌<◌, ◌≤◌, ◌&&◌, not, nat_lt, true, false, List, [], ◌∷◌, ◌++◌, length, map, take, drop, replicate, get_or, None, refl, sym, ap, ◌∙◌, arith, subst, inl, length-take-le}
use Rattle.std.proofs.Math.Nat.{add-mod, mod_self, mul-add-div_right, mul-le-mul_left, mul-mod_left, zero-mod, zero-mul}
use Rattle.std.proofs.Math.Seq.{take-add}
use Rattle.std.proofs.lemmas.List.{drop-take, get_or-take, length-drop, length-map, map-append, take-take, take_all, take_rest}
use Rattle.std.proofs.lemmas.List.Folds.{list_any-append}
use Rattle.std.proofs.lemmas.Slice.{take-put_mid_below}
use Rattle.std.specs.List.{list_any}
use Rattle.data_encoding_meaning.specs.declared.encoding.Character.TheVariants.{Symbol, Padding}
use Rattle.data_encoding_meaning.specs.text.Base.{Base, IsGroup, IsWidth, group_bytes, group_symbols, is_ignored, is_symbol, meaning}
use Rattle.data_encoding_meaning.specs.text.Grammar.{bytes_in, kept, kept_in, positioned_from}
use Rattle.data_encoding_meaning.specs.decoding.Decoding.{IsDecodedGroup, IsGathered}
use Rattle.data_encoding_meaning.specs.decoding.Fault.{group_fault, symbol_bytes}
use Rattle.data_encoding_meaning.proofs.decoding.GatherLemmas.{bytes-next, is-next}
use Rattle.data_encoding_meaning.proofs.decoding.IgnoredFrontLemmas.{no_front}
use Rattle.data_encoding_meaning.proofs.decoding.ProgressLemmas.{after-group, after-run, begin, room-run, same-output}
use Rattle.data_encoding_meaning.proofs.decoding.WholeLengthLemmas.{most_bytes-few}
use Rattle.data_encoding_meaning.proofs.digits.WidthLemmas.{group_bits, group_symbols-pos}
use Rattle.data_encoding_meaning.proofs.grammar.GroupLemmas.{GroupMeans-sound}
use Rattle.data_encoding_meaning.proofs.grammar.PositionLemmas.{bytes-positioned_from}
use Rattle.data_encoding_meaning.proofs.lists.PartLemmas.{IsWhole-group}
use Rattle.data_encoding_meaning.proofs.lists.WriteLemmas.{length-rewritten_same, put_mid-end, rewritten, take-rewritten}
use Rattle.data_encoding_kernel.specs.Runs.{IsRun}
use Rattle.data_encoding.specs.declared.decode.groups.Groups.{Groups}
use Rattle.data_encoding.specs.Groups.{HasReadGroups, NoneIgnored}

-- Bytes that are not ignored.
module _ (base : Base) where
  plain-append : (xs ys : List ℕ) → NoneIgnored base xs → NoneIgnored base ys
      → NoneIgnored base (xs ++ ys)
  plain-append xs ys h k =
      rw (
        map-append (meaning base) xs ys,
        list_any-append is_ignored (map (meaning base) xs) (map (meaning base) ys),
        h,
        k,
      ) refl

  pub plain-kept : (start : ℕ) (bytes : List ℕ) → NoneIgnored base bytes
      → kept_in base start bytes ≡ positioned_from start bytes
  plain-kept start [] h = refl
  plain-kept start (byte ∷ bytes) h =
      grind (arith, plain-kept (start + 1) bytes)

  pub plain-bytes : (bytes : List ℕ) → NoneIgnored base bytes → bytes_in (kept base bytes) ≡ bytes
  plain-bytes bytes h = ap bytes_in (plain-kept 0 bytes h) ∙ bytes-positioned_from 0 bytes

  pub plain-at : (bytes : List ℕ) (k : ℕ) → NoneIgnored base bytes → k < length bytes
      → is_ignored (meaning base (get_or bytes k 0)) ≡ false
  plain-at [] k h less = absurd (omega (arith, less))
  plain-at (byte ∷ bytes) zero h less = grind arith
  plain-at (byte ∷ bytes) (suc k) h less =
      plain-at bytes k (grind arith) (omega (arith, less))

  plain-symbols : (bytes : List ℕ)
      → ((k : ℕ) → k < length bytes → is_symbol (meaning base (get_or bytes k 0)) ≡ true)
      → NoneIgnored base bytes
  plain-symbols [] h = refl
  plain-symbols (byte ∷ bytes) h =
      let here : is_symbol (meaning base byte) ≡ true = h 0 (omega arith) in
      let more = plain-symbols bytes (λ k less. h (suc k) (omega (arith, less))) in
      grind arith

  plain-values : (values : List ℕ)
      → list_any is_ignored (map (λ value. Symbol value) values) ≡ false
  plain-values [] = refl
  plain-values (value ∷ values) = plain-values values

  plain-padding : (count : ℕ) → list_any is_ignored (replicate count Padding) ≡ false
  plain-padding zero = refl
  plain-padding (suc count) = plain-padding count

  -- a group without a fault has symbols and padding only
  pub plain-sound : IsWidth base.width → (group : List ℕ) → 0 < length group
      → length group ≤ group_symbols base.width → group_fault base group ≡ None
      → NoneIgnored base group
  plain-sound width group some few sound =
      let len = length-map group (meaning base) in
      let means = GroupMeans-sound base width (map (meaning base) group)
      (omega (arith, len, some)) (omega (arith, len, few)) sound in
      rw (
        means.is_group,
        list_any-append is_ignored means.symbols (replicate means.padding Padding),
        means.means.are_symbols,
        plain-values means.means.values,
        plain-padding means.padding,
      ) refl

-- A slice of what is left of a prefix.
part-left : (part : List ℕ) (len read : ℕ) → read ≤ len → len ≤ length part
    → take (len - read) (take (length part - read) (drop read part)) ≡ drop read (take len part)
part-left part len read before within =
    let both : read + (len - read) ≡ len = omega (arith, before) in
    ap (take (len - read)) (take_rest part read) ∙ sym (drop-take read (len - read) part)
    ∙ ap (λ n. drop read (take n part)) both

-- Groups are read from the start.
pub read-none : (base : Base) → IsWidth base.width → (part : List ℕ) {output : List ℕ}
    → length part / group_symbols base.width * group_bytes base.width ≤ length output
    → HasReadGroups base part (record { read = 0; written = 0 }) output
read-none base width part {output} room = record {
  so_far = begin base width part output;
  whole = zero-mod (group_symbols base.width);
  plain = refl;
  room = first-room;
} where
  first-room : 0 + (length part - 0) / group_symbols base.width * group_bytes base.width
      ≤ length output
  first-room =
      let all : length part - 0 ≡ length part = omega arith in
      rw all (omega (arith, room))

same-groups : (at : Groups) (read written : ℕ) → at.read ≡ read → at.written ≡ written
    → at ≡ record { read = read; written = written }
same-groups at read written h k = λ i. record { read = h i; written = k i }

module _ {base : Base} {part : List ℕ} {at : Groups} {output : List ℕ}
    (width : IsWidth base.width) (is : HasReadGroups base part at output) (new : List ℕ)
    (new_len : length new
    ≡ length (take (length output - at.written) (drop at.written output))) where
  same_len : length (rewritten at.written output new) ≡ length output
  same_len = length-rewritten_same at.written output new is.so_far.fits new_len

  -- other bytes follow what was written
  read-same : HasReadGroups base part at (rewritten at.written output new)
  read-same = record {
    so_far = same-output base width part (rewritten at.written output new) is.so_far
        (omega (arith, same_len, is.so_far.fits))
        (take-put_mid_below at.written (length output - at.written) output new at.written
        (omega arith) is.so_far.fits);
    whole = is.whole;
    plain = is.plain;
    room = omega (arith, is.room, same_len);
  }

  -- what is left has room after this many groups more
  room-after : (count written : ℕ)
      → count * group_symbols base.width ≤ length part - at.read
      → written ≤ at.written + count * group_bytes base.width
      → written
      + (length part - (at.read + count * group_symbols base.width)) / group_symbols base.width
      * group_bytes base.width
      ≤ length (rewritten at.written output new)
  room-after count written few most =
      let size = group_symbols base.width in
      let rest = length part - (at.read + count * size) in
      let all : length part - at.read ≡ count * size + rest = omega (arith, few) in
      let more : (length part - at.read) / size ≡ count + rest / size =
      ap (λ n. n / size) all
      ∙ mul-add-div_right (group_symbols-pos base.width width) count rest in
      omega (arith, is.room, same_len, ap (λ n. n * group_bytes base.width) more, most)

  plain-more : (n : ℕ) → NoneIgnored base (take n (drop at.read part))
      → NoneIgnored base (take (at.read + n) part)
  plain-more n h =
      rw (take-add at.read n part)
      (plain-append base (take at.read part) (take n (drop at.read part)) is.plain h)

  -- a run of symbols
  module _ (count : ℕ) {old : List ℕ} (run : IsRun base (drop at.read part) count old new) where
    few_run : count * group_symbols base.width ≤ length part - at.read
    few_run = omega (arith, run.within, length-drop at.read part)

    room_run : at.written + count * group_bytes base.width
        + (length part - (at.read + count * group_symbols base.width))
        / group_symbols base.width * group_bytes base.width
        ≤ length (rewritten at.written output new)
    room_run = room-after count (at.written + count * group_bytes base.width) few_run (omega arith)

    run_plain : NoneIgnored base (take (count * group_symbols base.width) (drop at.read part))
    run_plain =
        let whole = count * group_symbols base.width in
        let len = length-take-le whole (drop at.read part) run.within in
        plain-symbols base (take whole (drop at.read part))
        (λ k less.
        let inside : k < whole = omega (arith, less, len) in
        rw (get_or-take whole (drop at.read part) k 0 inside) (run.are_symbols k inside))

    run-to : (n : ℕ) → count ≡ n
        → HasReadGroups base part
        (record {
          read = at.read + count * group_symbols base.width;
          written = at.written + count * group_bytes base.width;
        }) (rewritten at.written output new)
    run-to zero none =
        let read : at.read ≡ at.read + count * group_symbols base.width =
        rw (none, zero-mul (group_symbols base.width)) (omega arith) in
        let written : at.written ≡ at.written + count * group_bytes base.width =
        rw (none, zero-mul (group_bytes base.width)) (omega arith) in
        subst (λ (p : Groups). HasReadGroups base part p (rewritten at.written output new))
        (same-groups at _ _ read written) read-same
    run-to (suc n) some =
        let size = group_symbols base.width in
        let place : at.read + 0 ≡ at.read = omega arith in
        record {
          so_far = rw place at (after-run base width part count
              (rewritten at.written output new) is.so_far
              (no_front base (drop at.read part)) (omega (arith, some))
              (rw place (omega (arith, few_run)))
              (rw place run.are_symbols) (omega (arith, room_run))
              (rw place (take-rewritten at.written output new is.so_far.fits
              (count * group_bytes base.width)
              ∙ ap (λ l. take at.written output ++ l) run.bytes)));
          whole = rw (add-mod at.read (count * size) size, is.whole, mul-mod_left count size)
              (zero-mod size);
          plain = plain-more (count * size) run_plain;
          room = room_run;
        }

    read-run : HasReadGroups base part
        (record {
          read = at.read + count * group_symbols base.width;
          written = at.written + count * group_bytes base.width;
        }) (rewritten at.written output new)
    read-run = run-to count refl

-- Bytes of which none is ignored are gathered where they stand.
pub gathered-here : (base : Base) (n : ℕ) (xs : List ℕ) → n ≤ length xs
    → NoneIgnored base (take n xs) → IsGathered base n xs (take n xs) n
gathered-here base n xs within plain =
    let len : length (take n xs) ≡ n = length-take-le n xs within in
    record {
      within = within;
      bytes_are = plain-bytes base (take n xs) plain;
      ends = λ some.
          rw (get_or-take n xs (n - 1) 0 (omega (arith, some))) at
          (plain-at base (take n xs) (n - 1) plain (omega (arith, some, len)));
      few = omega (arith, len);
      last = inl len;
    }

-- A padded group more.
module _ {base : Base} {part : List ℕ} {at : Groups} {output : List ℕ}
    (width : IsWidth base.width) (is : HasReadGroups base part at output) (new : List ℕ)
    (new_len : length new
    ≡ length (take (length output - at.written) (drop at.written output)))
    (enough : at.read + group_symbols base.width ≤ length part)
    {count : ℕ} (has : IsDecodedGroup base
    (take (group_symbols base.width) (drop at.read part)) count new) where
  abbrev group : List ℕ
  group = take (group_symbols base.width) (drop at.read part)

  group_len : length group ≡ group_symbols base.width
  group_len =
      length-take-le (group_symbols base.width) (drop at.read part)
      (omega (arith, enough, length-drop at.read part))

  group_some : 0 < length group
  group_some = omega (arith, group_len, group_symbols-pos base.width width)

  group_plain : NoneIgnored base group
  group_plain = plain-sound base width group group_some (omega (arith, group_len)) has.sound

  group_here : IsGathered base (group_symbols base.width) (drop at.read part) group
      (group_symbols base.width)
  group_here =
      gathered-here base (group_symbols base.width) (drop at.read part)
      (omega (arith, enough, length-drop at.read part)) group_plain

  group_bytes_few : base.width * count / 8 ≤ group_bytes base.width
  group_bytes_few =
      omega (
        arith,
        mul-le-mul_left base.width has.within,
        ap (λ n. base.width * n) group_len,
        group_bits base.width width,
      )

  read-group : base.concatenates ≡ true
      → HasReadGroups base part
      (record {
        read = at.read + group_symbols base.width;
        written = at.written + base.width * count / 8;
      }) (rewritten at.written output new)
  read-group joins =
      let size = group_symbols base.width in
      let more = base.width * count / 8 in
      let one : 1 * size ≡ size = omega arith in
      let room = rw one at (room-after width is new new_len 1 (at.written + more)
      (omega (arith, enough)) (omega (arith, group_bytes_few))) in
      let same = bytes-next base width part at.read is.so_far.within group_here in
      let final : (not base.concatenates && nat_lt count (length group)) ≡ false =
      rw joins refl in
      record {
        so_far = rw (← final, ← has.final, ← same)
            (after-group base width part more (rewritten at.written output new) is.so_far
            (is-next base width part at.read is.so_far.within group_here group_some)
            (rw (same, has.sound))
            (omega (arith, room))
            (take-rewritten at.written output new is.so_far.fits more
            ∙ ap (λ l. take at.written output ++ l)
            (has.bytes ∙ ap (λ l. symbol_bytes base (map (meaning base) l)) (sym same))));
        whole = rw (add-mod at.read size size, is.whole, mod_self size) (zero-mod size);
        plain = plain-more width is new new_len size group_plain;
        room = room;
      }

-- By the sizes of a group as constants, and slices of what is left.
module _ {w b s : ℕ} (sizes : IsGroup w b s) (base : Base) (width_is : base.width ≡ w)
    (part : List ℕ) (len : ℕ) (few : len ≤ length part) (output new : List ℕ) where
  own_width : IsWidth base.width
  own_width = subst IsWidth (sym width_is) sizes.is_width

  own_symbols : group_symbols base.width ≡ s
  own_symbols = ap group_symbols width_is ∙ sym sizes.has_symbols

  own_bytes : group_bytes base.width ≡ b
  own_bytes = ap group_bytes width_is ∙ sym sizes.has_bytes

  prefix_len : length (take len part) ≡ len
  prefix_len = length-take-le len part few

  reads-none : len / s * b ≤ length output
      → HasReadGroups base (take len part) (record { read = 0; written = 0 }) output
  reads-none room =
      read-none base own_width (take len part)
      (rw (prefix_len, own_symbols, own_bytes) room)

  pub reads-first : len / s * b ≤ length output → length new ≡ length output → (count : ℕ)
      {old : List ℕ} → IsRun base (take len part) count old new
      → HasReadGroups base (take len part)
      (record { read = count * s; written = count * b }) new
  reads-first room new_len count run =
      let whole = take_all (length output - 0) (drop 0 output) (omega arith) in
      let all = read-run own_width (reads-none room) new (new_len ∙ sym (ap length whole)) count
      run in
      let same : rewritten 0 output new ≡ new = put_mid-end 0 output new in
      let read : 0 + count * group_symbols base.width ≡ count * s =
      omega (arith, ap (λ n. count * n) own_symbols) in
      let written : 0 + count * group_bytes base.width ≡ count * b =
      omega (arith, ap (λ n. count * n) own_bytes) in
      rw (read, written, same) at all

  -- no more is written than there is
  pub reads-few : {at : Groups} {after : List ℕ} → HasReadGroups base (take len part) at after
      → at.written ≤ len
  reads-few is =
      omega (
        arith,
        room-run base own_width (take len part) is.so_far 0
            (omega (arith, zero-mul (group_symbols base.width))),
        most_bytes-few base own_width (length (take len part)),
        prefix_len,
      )

  -- the next group has room
  pub group-room : {at : Groups} → HasReadGroups base (take len part) at output
      → at.read + s ≤ len
      → w * s / 8 ≤ length (take (length output - at.written) (drop at.written output))
  group-room {at} is enough =
      let size = group_symbols base.width in
      let rest = length (take len part) - at.read - size in
      let all : length (take len part) - at.read ≡ 1 * size + rest =
      omega (arith, enough, own_symbols, prefix_len) in
      let more : (length (take len part) - at.read) / size ≡ 1 + rest / size =
      ap (λ n. n / size) all
      ∙ mul-add-div_right (group_symbols-pos base.width own_width) 1 rest in
      omega (
        arith,
        is.room,
        ap (λ n. n * group_bytes base.width) more,
        own_bytes,
        (IsWhole-group w b s sizes).same_bits,
        ap length (take_rest output at.written),
        length-drop at.written output,
      )

  module _ {at : Groups} (is : HasReadGroups base (take len part) at output)
      (new_len : length new
      ≡ length (take (length output - at.written) (drop at.written output))) where
    pub reads-run : (count : ℕ) {old : List ℕ}
        → IsRun base (take (len - at.read) (take (length part - at.read) (drop at.read part)))
        count old new
        → HasReadGroups base (take len part)
        (record { read = at.read + count * s; written = at.written + count * b })
        (rewritten at.written output new)
    reads-run count run =
        let within : at.read ≤ len = omega (arith, is.so_far.within, prefix_len) in
        let here = rw (part-left part len at.read within few) at run in
        rw (own_symbols, own_bytes) at (read-run own_width is new new_len count here)

    group-in-prefix : at.read + s ≤ len
        → take s (drop at.read (take len part)) ≡ take s (drop at.read part)
    group-in-prefix enough =
        let both : at.read + (len - at.read) ≡ len = omega (arith, enough) in
        ap (λ n. take s (drop at.read (take n part))) (sym both)
        ∙ ap (take s) (drop-take at.read (len - at.read) part)
        ∙ take-take s (len - at.read) (drop at.read part) (omega (arith, enough))

    pub reads-group : at.read + s ≤ len → base.concatenates ≡ true → {count : ℕ}
        → IsDecodedGroup base (take (at.read + s - at.read) (drop at.read part)) count new
        → HasReadGroups base (take len part)
        (record { read = at.read + s; written = at.written + w * count / 8 })
        (rewritten at.written output new)
    reads-group enough joins {count} has =
        let size : at.read + s - at.read ≡ s = omega arith in
        subst (λ (p : Groups). HasReadGroups base (take len part) p
        (rewritten at.written output new))
        (λ i. record {
          read = at.read + own_symbols i;
          written = at.written + width_is i * count / 8;
        })
        (read-group own_width is new new_len
        (omega (arith, enough, own_symbols, prefix_len))
        {count = count} (rw (own_symbols, group-in-prefix enough) (rw size at has)) joins)
