-- The bytes of a text that are not ignored, gathered one by one.
use Rattle.std.proofs.Common.{◌≡◌, ℕ, zero, suc, ◌+◌, ◌-◌, ◌<◌, ◌≤◌, ◌⊎◌, true, false, List, [], ◌∷◌, ◌++◌, length, set, take, drop, get_or, refl, sym, ap, ◌∙◌, arith, append_assoc, length-append, length-take-le, ⊎_elim, inl, inr}
use Rattle.std.proofs.Math.Seq.{get_or-append_seam, take-suc}
use Rattle.std.proofs.lemmas.List.{append-nil, get_or_append_left, get_or-map, length-drop, length-map, length-take, map-append, take_all, take_min, take_more, take_more_set, nil_from_length}
use Rattle.data_encoding_meaning.specs.text.Base.{Base, meaning, ignores_some, is_ignored, group_symbols, IsWidth}
use Rattle.data_encoding_meaning.specs.decoding.Decoding.{IsGathered}
use Rattle.data_encoding_meaning.specs.decoding.Fault.{position_of}
use Rattle.data_encoding_meaning.specs.text.Grammar.{Positioned, kept, kept_in, kept_from, bytes_in}
use Rattle.data_encoding_meaning.specs.decoding.Partial.{position_after}
use Rattle.data_encoding_meaning.proofs.digits.WidthLemmas.{group_symbols-pos}
use Rattle.data_encoding_meaning.proofs.grammar.JoinFaultLemmas.{kept_in-moved, moved}
use Rattle.data_encoding_meaning.proofs.grammar.PositionLemmas.{bytes-positioned_from, filter-plain, length-by_bytes, length-kept, length-kept_plain, never_ignored}
use Rattle.data_encoding_meaning.proofs.grammar.KeptLemmas.{kept_in-append, kept_from-more, kept-split, position_after-append}
use Rattle.data_encoding_meaning.proofs.grammar.SameBytesLemmas.{bytes-kept_in}
use Rattle.data_encoding_meaning.proofs.decoding.ProgressLemmas.{IsNext}

-- This many bytes before a position are not ignored; they were gathered, and end there.
pub record HasGathered (base : Base) (part : List ℕ) (index count span : ℕ) (room : List ℕ)
    : Type 0 where
  pub before : span ≤ index
  pub same : kept base (take span part) ≡ kept base (take index part)
  pub bytes_are : bytes_in (kept base (take index part)) ≡ take count room
  pub count_is : length (kept base (take index part)) ≡ count
  pub ends : 0 < span → is_ignored (meaning base (get_or part (span - 1) 0)) ≡ false

pub nothing-gathered : (base : Base) (part room : List ℕ) → HasGathered base part 0 0 0 room
nothing-gathered base part room = record {
  before = omega arith;
  same = refl;
  bytes_are = refl;
  count_is = refl;
  ends = λ h. absurd (omega (arith, h));
}

module _ (base : Base) (part : List ℕ) (index : ℕ) (inside : index < length part) where
  abbrev here : ℕ
  here = get_or part index 0

  abbrev found : Positioned
  found = record { position = index; byte = here }

  next-is : kept base (take (index + 1) part)
      ≡ kept base (take index part) ++ kept_in base index (here ∷ [])
  next-is =
      let at : 0 + length (take index part) ≡ index =
      omega (arith, length-take-le index part (omega (arith, inside))) in
      rw (take_more part index 0 inside, kept_in-append base 0 (take index part) (here ∷ []), at)

  next-kept : is_ignored (meaning base here) ≡ false
      → kept base (take (index + 1) part) ≡ kept base (take index part) ++ found ∷ []
  next-kept h = next-is ∙ rw h

  pub next-ignored : is_ignored (meaning base here) ≡ true
      → kept base (take (index + 1) part) ≡ kept base (take index part)
  next-ignored h = next-is ∙ rw h (append-nil (kept base (take index part)))

  -- a byte that is not ignored stays in its place
  pub gather-in_place : is_ignored (meaning base here) ≡ false
      → HasGathered base part index index index part
      → HasGathered base part (index + 1) (index + 1) (index + 1) part
  gather-in_place h so_far =
      let before = kept base (take index part) in
      let bytes = map-append (λ (k : Positioned). k.byte) before (found ∷ []) in
      let place : index + 1 - 1 ≡ index = omega arith in
      record {
        before = omega arith;
        same = refl;
        bytes_are = rw (next-kept h, bytes, so_far.bytes_are) (sym (take_more part index 0 inside));
        count_is = rw (next-kept h, length-append before (found ∷ []), so_far.count_is);
        ends = λ _. rw place h;
      }

  module _ (count span : ℕ) (room : List ℕ)
      (so_far : HasGathered base part index count span room) where
    pub gather-kept : is_ignored (meaning base here) ≡ false → count < length room
        → HasGathered base part (index + 1) (count + 1) (index + 1) (set room count here)
    gather-kept h fits =
        let before = kept base (take index part) in
        let bytes = map-append (λ (k : Positioned). k.byte) before (found ∷ []) in
        let place : index + 1 - 1 ≡ index = omega arith in
        record {
          before = omega arith;
          same = refl;
          bytes_are = rw (next-kept h, bytes, so_far.bytes_are)
              (sym (take_more_set room count here fits));
          count_is = rw (next-kept h, length-append before (found ∷ []), so_far.count_is);
          ends = λ _. rw place h;
        }

    pub gather-ignored : is_ignored (meaning base here) ≡ true
        → HasGathered base part (index + 1) count span room
    gather-ignored h = record {
      before = omega (arith, so_far.before);
      same = rw (next-ignored h) so_far.same;
      bytes_are = rw (next-ignored h) so_far.bytes_are;
      count_is = rw (next-ignored h) so_far.count_is;
      ends = so_far.ends;
    }

  -- the member with this index has this position
  pub position-here : is_ignored (meaning base here) ≡ false
      → position_of (kept base part) (length (kept base (take index part))) ≡ index
  position-here h =
      let before = kept base (take index part) in
      let rest = kept_from base (index + 1) part in
      rw (kept-split base (index + 1) part (omega (arith, inside)), next-kept h)
      (rw (append_assoc before (found ∷ []) rest) (ap (λ (k : Positioned). k.position)
      (get_or-append_seam before found rest (record { position = 0; byte = 0 }))))

  pub more-here : is_ignored (meaning base here) ≡ false
      → length (kept base (take (index + 1) part)) ≡ length (kept base (take index part)) + 1
  more-here h = ap length (next-kept h) ∙ length-append (kept base (take index part)) (found ∷ [])

  pub none-here : is_ignored (meaning base here) ≡ true
      → length (kept base (take (index + 1) part)) ≡ length (kept base (take index part))
  none-here h = ap length (next-ignored h)

-- a group was gathered if it is whole, or nothing is left
pub gathered : {base : Base} {size : ℕ} {part : List ℕ} {index count span : ℕ} {room : List ℕ}
    → HasGathered base part index count span room → index ≤ length part → count ≤ size
    → (count ≡ size) ⊎ (index ≡ length part) → IsGathered base size part (take count room) span
gathered {base} {size} {part} {index} {count} {room} so_far within few last =
    let len : length (take count room) ≡ count =
    rw (length-by_bytes (kept base (take index part)) (take count room) so_far.bytes_are) at
    so_far.count_is in
    let all : index ≡ length part → length (kept base part) ≡ count =
    λ end. rw (take_all index part (omega (arith, end))) at so_far.count_is in
    record {
      within = omega (arith, so_far.before, within);
      bytes_are = ap bytes_in so_far.same ∙ so_far.bytes_are;
      ends = so_far.ends;
      few = omega (arith, len, few);
      last = grind (arith, len, all, last);
    }

-- if nothing is ignored: the bytes themselves
pub gathered-plain : (base : Base) → ignores_some base ≡ false → (size : ℕ) (part : List ℕ)
    → IsGathered base size part (take size part) (length (take size part))
gathered-plain base none size part =
    let bytes = take size part in
    let len = length-take size part in
    record {
      within = omega (arith, len);
      bytes_are = rw (filter-plain base none, bytes-positioned_from, len) (take_min size part);
      ends = λ _. never_ignored base none (get_or part (length bytes - 1) 0);
      few = omega (arith, len);
      last = grind (arith, len, length-kept_plain base part none);
    }

-- as many bytes are kept of the rest, whatever its position
length-left : (base : Base) (text : List ℕ) (read : ℕ)
    → length (kept_from base read text) ≡ length (kept base (drop read text))
length-left base text read =
    simp length-map at (ap length
    (bytes-kept_in base read (drop read text) ∙ sym (bytes-kept_in base 0 (drop read text))))

pub nothing-kept : (base : Base) (text : List ℕ) (read : ℕ)
    → length (kept base (drop read text)) ≡ 0 → kept_from base read text ≡ []
nothing-kept base text read h =
    nil_from_length (kept_from base read text) (length-left base text read ∙ h)

-- What was gathered from bytes is among them.
module _ {base : Base} {size : ℕ} {part group : List ℕ} {span : ℕ}
    (is : IsGathered base size part group span) where
  length-gathered : length (kept base (take span part)) ≡ length group
  length-gathered = length-by_bytes (kept base (take span part)) group is.bytes_are

  pub gathered-few : length group ≤ span
  gathered-few =
      rw (length-gathered, length-take-le span part is.within) at
      (length-kept base (take span part))

  pub gathered-some : (index : ℕ) → index < length group → index < length (kept base part)
  gathered-some index inside =
      rw (kept-split base span part is.within)
      (simp length-append (omega (arith, inside, length-gathered)))

-- the next bytes of a text, so far, with their positions
abbrev pub next_bytes : Base → List ℕ → ℕ → ℕ → List Positioned
next_bytes base text read span = kept_in base read (take span (drop read text))

-- The next bytes of a text as they were gathered.
module _ (base : Base) (width : IsWidth base.width) (text : List ℕ) (read : ℕ)
    (within : read ≤ length text) {group : List ℕ} {span : ℕ}
    (is : IsGathered base (group_symbols base.width) (drop read text) group span) where
  abbrev part : List ℕ
  part = take span (drop read text)

  abbrev nexts : List Positioned
  nexts = next_bytes base text read span

  pub bytes-next : bytes_in nexts ≡ group
  bytes-next = bytes-kept_in base read part ∙ sym (bytes-kept_in base 0 part) ∙ is.bytes_are

  pub length-next : length nexts ≡ length group
  length-next = length-by_bytes nexts group bytes-next

  pub within-next : read + span ≤ length text
  within-next = omega (arith, is.within, length-drop read text, within)

  -- each has its position in the text
  pub position-next : (index : ℕ) → index < length group
      → position_of nexts index ≡ read + position_of (kept base (drop read text)) index
  position-next index inside =
      let none : Positioned = record { position = 0; byte = 0 } in
      let front = kept base part in
      let far : index < length front = omega (arith, length-gathered is, inside) in
      let start : read + 0 ≡ read = omega arith in
      let there : nexts ≡ moved read front = rw start at (kept_in-moved base width read 0 part) in
      let moves : Positioned → Positioned =
      λ k. record { position = read + k.position; byte = k.byte } in
      rw (there, kept-split base span (drop read text) is.within)
      (ap (λ (k : Positioned). k.position) (get_or-map moves front index none none far
      ∙ ap moves (sym (get_or_append_left front (kept_from base span (drop read text)) none index
      far))))

  -- nothing is left if none was found
  pub none-next : length group ≡ 0 → kept_from base read text ≡ []
  none-next empty =
      let some = group_symbols-pos base.width width in
      nothing-kept base text read (omega (arith, is.last, empty, some))

  -- they are the next group
  pub is-next : 0 < length group → IsNext base text read (read + span) nexts
  is-next some =
      let same : read + span - read ≡ span = omega arith in
      let total = simp length-append at (ap length (rw same at (kept_from-more base read text within
      (read + span) (omega arith) within-next))) in
      record {
        is_part = record {
          after = omega arith;
          within = within-next;
          is_kept = rw same;
          some = omega (arith, length-next, some);
          ends = ends_at (drop read text) span is.within is.ends
              (omega (arith, length-next, some));
        };
        few = omega (arith, length-next, is.few);
        last = ⊎_elim {C = (length nexts ≡ group_symbols base.width)
            ⊎ (kept_from base (read + span) text ≡ [])}
            (λ full. inl (length-next ∙ full))
            (λ all. inr (nil_from_length (kept_from base (read + span) text)
            (omega (arith, total, length-next, length-left base text read, all))))
            is.last;
      } where
        ends_at : (xs : List ℕ) (n : ℕ) → n ≤ length xs
            → (0 < n → is_ignored (meaning base (get_or xs (n - 1) 0)) ≡ false)
            → 0 < length (kept_in base read (take n xs))
            → position_after (kept_in base read (take n xs)) ≡ read + n
        ends_at xs zero few ends some = absurd (omega (arith, some))
        ends_at xs (suc n) few ends some =
            let front = take n xs in
            let byte = get_or xs n 0 in
            let place : n ≡ suc n - 1 = omega arith in
            let kept_last : is_ignored (meaning base byte) ≡ false =
            rw place (ends (omega arith)) in
            let front_len : length front ≡ n = length-take-le n xs (omega (arith, few)) in
            let split = take-suc xs n 0 (omega (arith, few)) in
            rw (split, kept_in-append base read front (byte ∷ []), kept_last)
            (position_after-append (kept_in base read front)
            (record { position = read + length front; byte = byte } ∷ []) (omega arith)
            ∙ omega (arith, front_len))
