-- The bytes held of a text, and how one more is read.
use Rattle.std.proofs.Common.{◌≡◌, ℕ, zero, suc, ◌+◌, ◌<◌, ◌≤◌, Bool, true, false, not, cond, ◌&&◌, ◌||◌, List, [], ◌∷◌, ◌++◌, length, map, take, Option, None, Some, IfSome, is_some, slice_index, set, refl, sym, ap, ◌∙◌, subst, arith, drop, length-append, length-take-le, replicate}
use Rattle.std.specs.List.{list_any}
use Rattle.std.proofs.Math.Seq.{take-append_seam}
use Rattle.std.proofs.lemmas.List.{append-nil, take-append-drop, take_more_set}
use Rattle.std.proofs.lemmas.List.Elements.{All-append, All-cons, All-drop, All-nil, All-weaker, filter_passes}
use Rattle.data_encoding.specs.declared.error.DecodeError.{DecodeError}
use Rattle.data_encoding.specs.Base.{Base, IsWidth, group_bytes, group_symbols, is_ignored, is_padding, meaning}
use Rattle.data_encoding.specs.Fault.{position_of}
use Rattle.data_encoding.specs.Fields.{IsSpecified}
use Rattle.data_encoding.specs.Layout.{fields_of}
use Rattle.data_encoding.specs.Grammar.{Positioned, is_final, kept, positioned, meanings_in}
use Rattle.data_encoding.specs.Pieces.{bytes_unless, held_with, unfinished, whole_bytes, HasRead, HoldsPiece, KeepsBytes, ReadsGroup}
use Rattle.encoding_stream.specs.declared.buffer_decoder.BufferDecoder.{BufferDecoder}
use Rattle.encoding_stream.specs.declared.buffer_decoder.Kept.{Kept}
use Rattle.encoding_stream.specs.Groups.{next_group, JudgesFaulty, JudgesSound}
use Rattle.encoding_stream.specs.BufferDecoder.{at_positions, base_of_pieces, held_group, paired, FillsGroups, Keeps, NoneIgnored}
use Rattle.encoding_stream.specs.Reading.{ReadsOn}
use Rattle.encoding_stream.specs.Specified.{KeepsFront}
use Rattle.encoding_stream.proofs.ReadPieceLemmas.{fills-few, fills-none}
use Rattle.encoding_stream.proofs.SizeLemmas.{symbols-few}

-- the laws apply to the encoding of a decoder
pub is-specified : (pieces : BufferDecoder) → IsSpecified (base_of_pieces pieces)
is-specified pieces = record {
  fields = fields_of (base_of_pieces pieces);
  is_built = pieces.specified.is_built;
}

-- that what was decoded stays is kept in a form of which there is one proof
pub keeps-front : KeepsBytes → KeepsFront
keeps-front law base is text piece =
    let more = law base is text piece in
    ap (take (length (whole_bytes base text))) more.1
    ∙ take-append_seam (whole_bytes base text) more.0

pub keeps-bytes : KeepsFront → KeepsBytes
keeps-bytes law base is text piece =
    let count = length (whole_bytes base text) in
    let all = whole_bytes base (text ++ piece) in (
      drop count all,
      sym (take-append-drop count all) ∙ ap (λ l. l ++ drop count all) (law base is text piece),
    )

-- Bytes at their positions.

paired-append : (ps qs bs cs : List ℕ) → length ps ≡ length bs
    → paired (ps ++ qs) (bs ++ cs) ≡ paired ps bs ++ paired qs cs
paired-append [] qs [] cs h = refl
paired-append [] qs (b ∷ bs) cs h = absurd (omega (arith, h))
paired-append (p ∷ ps) qs [] cs h = absurd (omega (arith, h))
paired-append (p ∷ ps) qs (b ∷ bs) cs h =
    ap (λ ks. record { position = p; byte = b } ∷ ks)
    (paired-append ps qs bs cs (omega (arith, h)))

positions-more : (n : ℕ) (ps bs : List ℕ) (p b : ℕ) → n < length ps → n < length bs
    → at_positions (n + 1) (set ps n p) (set bs n b)
    ≡ at_positions n ps bs ++ record { position = p; byte = b } ∷ []
positions-more n ps bs p b h k =
    ap (λ xs. paired xs (take (n + 1) (set bs n b))) (take_more_set ps n p h)
    ∙ ap (λ ys. paired (take n ps ++ p ∷ []) ys) (take_more_set bs n b k)
    ∙ paired-append (take n ps) (p ∷ []) (take n bs) (b ∷ [])
    (length-take-le n ps (omega arith) ∙ sym (length-take-le n bs (omega arith)))

pub positions-length : (n : ℕ) (ps bs : List ℕ) → n ≤ length ps → n ≤ length bs
    → length (at_positions n ps bs) ≡ n
positions-length zero ps bs h k = refl
positions-length (suc n) [] bs h k = absurd (omega (arith, h))
positions-length (suc n) (p ∷ ps) [] h k = absurd (omega (arith, k))
positions-length (suc n) (p ∷ ps) (b ∷ bs) h k =
    ap (λ m. suc m) (positions-length n ps bs (omega (arith, h)) (omega (arith, k)))

pub positions-bytes : (n : ℕ) (ps bs : List ℕ) → n ≤ length ps → n ≤ length bs
    → map (λ k. k.byte) (at_positions n ps bs) ≡ take n bs
positions-bytes zero ps bs h k = refl
positions-bytes (suc n) [] bs h k = absurd (omega (arith, h))
positions-bytes (suc n) (p ∷ ps) [] h k = absurd (omega (arith, k))
positions-bytes (suc n) (p ∷ ps) (b ∷ bs) h k =
    ap (λ xs. b ∷ xs) (positions-bytes n ps bs (omega (arith, h)) (omega (arith, k)))

pub positions-at : (n : ℕ) (ps bs : List ℕ) (i : ℕ) → i < n → n ≤ length ps → n ≤ length bs
    → position_of (at_positions n ps bs) i ≡ slice_index ps i
positions-at zero ps bs i inside h k = absurd (omega (arith, inside))
positions-at (suc n) [] bs i inside h k = absurd (omega (arith, h))
positions-at (suc n) (p ∷ ps) [] i inside h k = absurd (omega (arith, k))
positions-at (suc n) (p ∷ ps) (b ∷ bs) zero inside h k = refl
positions-at (suc n) (p ∷ ps) (b ∷ bs) (suc i) inside h k =
    positions-at n ps bs i (omega (arith, inside)) (omega (arith, h)) (omega (arith, k))

-- If texts may not be concatenated, a group with padding is final.
pub any-final : (base : Base) (n : ℕ) (ps bs : List ℕ) → n ≤ length ps → n ≤ length bs
    → base.concatenates ≡ false
    → list_any (λ b. is_padding (meaning base b)) (take n bs)
    ≡ is_final base (at_positions n ps bs)
any-final base n ps bs h k alone =
    any (take n bs)
    ∙ ap (λ l. list_any is_padding (map (meaning base) l)) (sym (positions-bytes n ps bs h k))
    ∙ ap (λ joins. not joins && list_any is_padding (meanings_in base (at_positions n ps bs)))
    (sym alone) where
      any : (bytes : List ℕ) → list_any (λ b. is_padding (meaning base b)) bytes
          ≡ list_any is_padding (map (meaning base) bytes)
      any [] = refl
      any (b ∷ bytes) = ap (λ found. is_padding (meaning base b) || found) (any bytes)

-- None of the bytes held is ignored.
module _ (base : Base) where
  passes : (b : Bool) → not b ≡ true → b ≡ false
  passes true h = cc
  passes false h = refl

  pub unfinished-kept : (text : List ℕ) → NoneIgnored base (unfinished base text)
  unfinished-kept text =
      All-drop (λ (k : Positioned). is_ignored (meaning base k.byte) ≡ false) _ (kept base text)
      (All-weaker _ (λ (k : Positioned). is_ignored (meaning base k.byte) ≡ false)
      (λ k h. passes (is_ignored (meaning base k.byte)) h) (kept base text)
      (filter_passes (λ k. not (is_ignored (meaning base k.byte))) (positioned text)))

pub no-fault : (fault : Option DecodeError) → is_some fault ≡ false → fault ≡ None
no-fault None h = refl
no-fault (Some error) h = absurd (cc h)

-- where there is no fault, none lies outside
pub no-fault-inside : (kept : Kept) (end : ℕ) → is_some kept.fault ≡ false
    → IfSome kept.fault (λ (e : DecodeError). e.position < end)
no-fault-inside kept end sound =
    subst (λ f. IfSome f (λ (e : DecodeError). e.position < end))
    (sym (no-fault kept.fault sound)) tt

-- What a `BufferDecoder` guarantees about what it keeps, and about its encoding.
pub record IsKept (base : Base) (kept : Kept) : Type 0 where
  pub specified : IsSpecified base
  pub width : IsWidth base.width
  pub short : kept.count < group_symbols base.width
  pub positions : length kept.positions ≡ 8
  pub bytes : length kept.bytes ≡ 8

-- with a byte and its position after those that are held, which are not counted again
abbrev with_byte : Kept → ℕ → Kept
with_byte kept byte = record kept {
  len = kept.len + 1;
  positions = set kept.positions kept.count kept.len;
  bytes = set kept.bytes kept.count byte;
}

-- `BufferDecoder::take`, if no group before has a fault.
module _ (base : Base) (kept : Kept) (is : IsKept base kept) (byte : ℕ)
    (sound : is_some kept.fault ≡ false) where
  abbrev next : Positioned
  next = record { position = kept.len; byte = byte }

  clean : kept.fault ≡ None
  clean = no-fault kept.fault sound

  size : length (held_group kept) ≡ kept.count
  size =
      let few = symbols-few base.width is.width in
      let short = is.short in
      positions-length kept.count kept.positions kept.bytes (omega (arith, short, is.positions))
      (omega (arith, short, is.bytes))

  -- the same with no fault and with the one that is kept, which is none
  again : (text : List ℕ) (one other : List Positioned) (ended : Bool) → one ≡ other
      → HasRead base text (kept.len + 1) None one ended
      → HasRead base text (kept.len + 1) kept.fault other ended
  again text one other ended same read =
      subst (λ f. HasRead base text (kept.len + 1) f other ended) (sym clean)
      (subst (λ ks. HasRead base text (kept.len + 1) None ks ended) same read)

  -- what holds for each text with no fault so far holds for each of which this is kept
  reads-byte : (new : Kept) (bytes : List ℕ)
      → ((text : List ℕ) → HasRead base text kept.len None (held_group kept) kept.ended
      → Keeps base new (text ++ byte ∷ [])
      × (whole_bytes base (text ++ byte ∷ []) ≡ whole_bytes base text ++ bytes))
      → new.len ≡ kept.len + 1 → FillsGroups base kept.count 1 new.count (length bytes)
      → ReadsOn base kept new (byte ∷ []) bytes
  reads-byte new bytes reads counted fills =
      let begun = λ (text : List ℕ) (keeps : Keeps base kept text).
      subst (λ f. HasRead base text kept.len f (held_group kept) kept.ended) clean keeps in
      record {
        keeps = λ text keeps. (reads text (begun text keeps)).0;
        decodes = λ text keeps. (reads text (begun text keeps)).1;
        counted = counted;
        few =
            fills-few base is.width kept.fault new.fault kept.count 1 new.count (length bytes)
            sound fills;
      }

  -- a byte that is ignored is counted
  pub read_byte-ignored : HoldsPiece → is_ignored (meaning base byte) ≡ true
      → ReadsOn base kept (record kept { len = kept.len + 1 }) (byte ∷ []) []
  read_byte-ignored holds ignored =
      let same : held_with base kept.len (held_group kept) (byte ∷ []) ≡ held_group kept =
      ap (λ b. held_group kept ++ cond (not b) (next ∷ []) []) ignored
      ∙ append-nil (held_group kept) in
      reads-byte _ []
      (λ text read.
      let after =
      holds base is.specified text (byte ∷ []) kept.len (held_group kept) kept.ended read
      (subst (λ ks. length ks < group_symbols base.width) (sym same)
      (subst (λ m. m < group_symbols base.width) (sym size) is.short)) in (
        again (text ++ byte ∷ []) _ (held_group kept) kept.ended same after.0,
        after.1 ∙ sym (append-nil (whole_bytes base text)),
      ))
      refl (fills-none base kept.count 1 kept.count (omega arith))

  -- one that is not, with those that are held
  module _ (is_kept : is_ignored (meaning base byte) ≡ false) (count : ℕ)
      (is_next : count ≡ kept.count + 1) where
    abbrev group : List Positioned
    group = next_group (with_byte kept byte) count

    more : held_group kept ++ next ∷ [] ≡ group
    more =
        let few = symbols-few base.width is.width in
        let short = is.short in
        sym (positions-more kept.count kept.positions kept.bytes kept.len byte
        (omega (arith, short, is.positions)) (omega (arith, short, is.bytes)))
        ∙ ap (λ n. next_group (with_byte kept byte) n) (sym is_next)

    joined : held_with base kept.len (held_group kept) (byte ∷ []) ≡ group
    joined = ap (λ b. held_group kept ++ cond (not b) (next ∷ []) []) is_kept ∙ more

    long : length group ≡ count
    long =
        ap (λ ks. length ks) (sym more) ∙ length-append (held_group kept) (next ∷ [])
        ∙ ap (λ n. n + 1) size ∙ sym is_next

    -- is held, if it completes no group
    pub read_byte-held : HoldsPiece → count < group_symbols base.width
        → ReadsOn base kept (record (with_byte kept byte) { count = count }) (byte ∷ []) []
    read_byte-held holds few =
        reads-byte _ []
        (λ text read.
        let after =
        holds base is.specified text (byte ∷ []) kept.len (held_group kept) kept.ended read
        (subst (λ ks. length ks < group_symbols base.width) (sym joined)
        (subst (λ n. n < group_symbols base.width) (sym long) few)) in (
          again (text ++ byte ∷ []) _ group kept.ended joined after.0,
          after.1 ∙ sym (append-nil (whole_bytes base text)),
        ))
        refl (fills-none base kept.count 1 count (omega (arith, is_next)))

    -- none of the group is ignored
    none-ignored : (text : List ℕ) → HasRead base text kept.len None (held_group kept) kept.ended
        → NoneIgnored base group
    none-ignored text read =
        subst (NoneIgnored base) more
        (All-append (λ (q : Positioned). is_ignored (meaning base q.byte) ≡ false)
        (held_group kept) _
        (subst (NoneIgnored base) (sym (read.holds refl)) (unfinished-kept base text))
        (All-cons (λ (q : Positioned). is_ignored (meaning base q.byte) ≡ false) next [] is_kept
        (All-nil _)))

    -- or completes a group, which is judged
    pub read_byte-sound : ReadsGroup → count ≡ group_symbols base.width → (bytes : List ℕ)
        → JudgesSound base (with_byte kept byte) count bytes
        → length bytes ≤ group_bytes base.width → (final : Bool) → final ≡ is_final base group
        → ReadsOn base kept (record (with_byte kept byte) {
          positions = replicate 8 0;
          bytes = replicate 8 0;
          count = 0;
          ended = final;
        }) (byte ∷ [])
        bytes
    read_byte-sound reads whole bytes judges few final is_end =
        reads-byte _ bytes
        (λ text read.
        let after = reads base is.specified text (byte ∷ []) kept.len (held_group kept) group
        kept.ended read joined (long ∙ whole) in
        let verdict = judges (none-ignored text read) in (
          again (text ++ byte ∷ []) [] [] final refl
              (subst (λ e. HasRead base (text ++ byte ∷ []) (kept.len + 1) None [] e) (sym is_end)
              (subst
              (λ f. HasRead base (text ++ byte ∷ []) (kept.len + 1) f [] (is_final base group))
              verdict.0 after.0)),
          after.1
              ∙ ap (λ f. whole_bytes base text ++ bytes_unless f base group) verdict.0
              ∙ ap (λ xs. whole_bytes base text ++ xs) verdict.1,
        ))
        refl
        (record {
          groups = 1;
          symbols = omega (arith, is_next, whole);
          bytes = omega (arith, few);
        })

    pub read_byte-faulty : ReadsGroup → count ≡ group_symbols base.width → (error : DecodeError)
        → JudgesFaulty base (with_byte kept byte) count error
        → ReadsOn base kept (record (with_byte kept byte) {
          positions = replicate 8 0;
          bytes = replicate 8 0;
          count = 0;
          fault = Some error;
        })
        (byte ∷ []) []
    read_byte-faulty reads whole error judges =
        reads-byte _ []
        (λ text read.
        let after = reads base is.specified text (byte ∷ []) kept.len (held_group kept) group
        kept.ended read joined (long ∙ whole) in
        let verdict = judges (none-ignored text read) in
        let faulty = subst
        (λ f. HasRead base (text ++ byte ∷ []) (kept.len + 1) f [] (is_final base group))
        verdict after.0 in (
          record {
            counted = faulty.counted;
            first = faulty.first;
            holds = λ none. absurd (cc none);
            ends = λ none. absurd (cc none);
          },
          after.1 ∙ ap (λ f. whole_bytes base text ++ bytes_unless f base group) verdict,
        ))
        refl (fills-none base kept.count 1 0 (omega arith))

-- what a decoder keeps
pub is-kept : (pieces : BufferDecoder)
    → length pieces.kept.positions ≡ 8 → length pieces.kept.bytes ≡ 8
    → IsKept (base_of_pieces pieces) pieces.kept
is-kept pieces positions bytes = record {
  specified = is-specified pieces;
  width = pieces.width;
  short = pieces.short;
  positions = positions;
  bytes = bytes;
}
