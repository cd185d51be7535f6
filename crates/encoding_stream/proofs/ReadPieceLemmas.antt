-- Lemmas on a piece of a text that is read slice by slice.
use Rattle.std.proofs.Common.{Bool, true, false, if◌then◌else◌, ◌/◌, zero-add, Option, None, Some, is_some, ◌≡◌, ℕ, ◌+◌, ◌-◌, ◌*◌, ◌<◌, ◌≤◌, List, [], ◌∷◌, ◌++◌, length, get_or, take, drop, refl, sym, subst, ap, ◌∙◌, append_assoc, arith, length-append, length-take-le}
use Rattle.std.proofs.lemmas.List.{append-nil, length-drop, take-append-drop, take-append-le, take_more, take_rest}
use borrow.Rule.Slice.PartMut.{put_mid}
use Rattle.std.proofs.Math.Seq.{take-add, take-append-add}
use Rattle.std.proofs.Math.Nat.{add-mul, div-mul-le_self, div_self, le-div_iff_mul-le, mul-le-mul_right}
use Rattle.data_encoding.specs.Base.{Base, IsWidth, group_bytes, group_symbols}
use Rattle.data_encoding.specs.declared.error.DecodeError.{DecodeError}
use Rattle.data_encoding.specs.Fields.{IsSpecified}
use Rattle.data_encoding.specs.Grammar.{Positioned}
use Rattle.data_encoding.specs.Pieces.{whole_bytes, HasRead, KeepsFault}
use Rattle.encoding_stream.specs.declared.buffer_decoder.Kept.{Kept}
use Rattle.encoding_stream.specs.BufferDecoder.{bytes_due, held_group, most_completed, FillsGroups, Keeps}
use Rattle.encoding_stream.specs.Reading.{ReadsOn}
use Rattle.encoding_stream.proofs.SizeLemmas.{most-few, symbols-some}

div-grows : (k m n : ℕ) → 0 < k → m ≤ n → m / k ≤ n / k
div-grows k m n some few =
    let less = div-mul-le_self m k in
    (le-div_iff_mul-le some).1 (omega (arith, less, few))

unless-less : (fault : Bool) (m n : ℕ) → m ≤ n
    → (if fault then 0 else m) ≤ (if fault then 0 else n)
unless-less true m n few = omega arith
unless-less false m n few = few

unless-few : (fault : Bool) (m n : ℕ) → m ≤ n → (if fault then 0 else m) ≤ n
unless-few true m n few = omega arith
unless-few false m n few = few

unless-fits : (fault : Bool) (w n m : ℕ) → w + n ≤ m → w + (if fault then 0 else n) ≤ m
unless-fits true w n m few = omega (arith, few)
unless-fits false w n m few = few

module _ (base : Base) (width : IsWidth base.width) where
  due-grows : (m n : ℕ) → m ≤ n → bytes_due base m ≤ bytes_due base n
  due-grows m n few =
      mul-le-mul_right (group_bytes base.width)
      (div-grows (group_symbols base.width) m n (symbols-some base.width width) few)

  -- more of the text completes no fewer bytes
  pub most-grows : (kept : Kept) (m n : ℕ) → m ≤ n
      → most_completed base kept m ≤ most_completed base kept n
  most-grows kept m n few =
      unless-less (is_some kept.fault) _ _
      (due-grows (kept.count + m) (kept.count + n) (omega (arith, few)))

  -- and no more than are held and follow
  pub most-short : (kept : Kept) (len : ℕ) → most_completed base kept len ≤ kept.count + len
  most-short kept len =
      unless-few (is_some kept.fault) (bytes_due base (kept.count + len)) (kept.count + len)
      (most-few base.width width (kept.count + len))

  -- the bytes of groups that are filled leave the room for what may follow
  pub fills-few : (before after : Option DecodeError) (old len new written : ℕ)
      → is_some before ≡ false → FillsGroups base old len new written → (more : ℕ)
      → written + (if is_some after then 0 else bytes_due base (new + more))
      ≤ (if is_some before then 0 else bytes_due base (old + (len + more)))
  fills-few before after old len new written sound fills more =
      let size = group_symbols base.width in
      let each = group_bytes base.width in
      let left : ℕ = (new + more) / size in
      let back : left * size ≤ new + more = div-mul-le_self (new + more) size in
      let both : (fills.groups + left) * size ≤ old + (len + more) =
      omega (arith, back, fills.symbols, add-mul fills.groups left size) in
      let all : fills.groups + left ≤ (old + (len + more)) / size =
      (le-div_iff_mul-le (symbols-some base.width width)).1 both in
      let fits : written + left * each ≤ (old + (len + more)) / size * each =
      omega (
        arith,
        fills.bytes,
        add-mul fills.groups left each,
        mul-le-mul_right each all,
      ) in
      subst (λ (f : Bool). written + (if is_some after then 0 else bytes_due base (new + more))
      ≤ (if f then 0 else bytes_due base (old + (len + more)))) (sym sound)
      (unless-fits (is_some after) written (bytes_due base (new + more))
      (bytes_due base (old + (len + more))) fits)

  -- the byte that completes a group completes the bytes of one group
  pub most-whole : (kept : Kept) → is_some kept.fault ≡ false
      → kept.count + 1 ≡ group_symbols base.width
      → most_completed base kept 1 ≡ group_bytes base.width
  most-whole kept sound whole =
      let some = symbols-some base.width width in
      let one : (kept.count + 1) / group_symbols base.width ≡ 1 =
      ap (λ n. n / group_symbols base.width) whole ∙ div_self some in
      ap (λ (f : Bool). if f then 0 else bytes_due base (kept.count + 1)) sound
      ∙ ap (λ n. n * group_bytes base.width) one ∙ omega arith

-- if no group is completed
pub fills-none : (base : Base) (old len new : ℕ) → new ≤ old + len
    → FillsGroups base old len new 0
fills-none base old len new few = record {
  groups = 0;
  symbols = omega (arith, few);
  bytes = omega arith;
}

pub reads-nothing : (base : Base) (kept : Kept) → ReadsOn base kept kept [] []
reads-nothing base kept = record {
  keeps = λ text keeps. subst (Keeps base kept) (sym (append-nil text)) keeps;
  decodes = λ text keeps. ap (whole_bytes base) (append-nil text) ∙ sym (append-nil _);
  counted = omega arith;
  few = λ more.
      subst (λ n. 0 + most_completed base kept more ≤ most_completed base kept n)
      (sym (zero-add more)) (omega arith);
}

pub reads-join : (base : Base) (a b c : Kept) (one other bytes more : List ℕ)
    → ReadsOn base a b one bytes → ReadsOn base b c other more
    → ReadsOn base a c (one ++ other) (bytes ++ more)
reads-join base a b c one other bytes more first second = record {
  keeps = λ text keeps.
      subst (Keeps base c) (append_assoc text one other)
      (second.keeps (text ++ one) (first.keeps text keeps));
  decodes = λ text keeps.
      ap (whole_bytes base) (sym (append_assoc text one other))
      ∙ second.decodes (text ++ one) (first.keeps text keeps)
      ∙ ap (λ bs. bs ++ more) (first.decodes text keeps)
      ∙ append_assoc (whole_bytes base text) bytes more;
  counted =
      omega (arith, first.counted, second.counted, length-append one other);
  few = λ rest.
      let before = first.few (length other + rest) in
      let after = second.few rest in
      let all : length one + (length other + rest) ≡ length (one ++ other) + rest =
      omega (arith, length-append one other) in
      subst (λ n. length (bytes ++ more) + most_completed base c rest ≤ most_completed base a n)
      all (omega (arith, before, after, length-append bytes more));
}

-- the length of the rest of a list
length-left : (i : ℕ) (xs : List ℕ) → length (take (length xs - i) (drop i xs)) ≡ length xs - i
length-left i xs = ap length (take_rest xs i) ∙ length-drop i xs

fault-keeps : (base : Base) → IsSpecified base → KeepsFault → (fault : Option DecodeError)
    → is_some fault ≡ true → (text piece : List ℕ) (len : ℕ) (held : List Positioned)
    (ended : Bool) → HasRead base text len fault held ended
    → HasRead base (text ++ piece) (len + length piece) fault held ended
    × (whole_bytes base (text ++ piece) ≡ whole_bytes base text)
fault-keeps base is law None some text piece len held ended reads = absurd (cc)
fault-keeps base is law (Some error) some text piece len held ended reads =
    law base is text piece len error held held ended ended reads

-- after a fault only the length changes
pub reads-fault : (base : Base) → IsWidth base.width → IsSpecified base → KeepsFault
    → (old : Kept) → is_some old.fault ≡ true → (piece : List ℕ)
    → ReadsOn base old (record old { len = old.len + length piece }) piece []
reads-fault base width is law old some piece =
    let next = λ (text : List ℕ) (keeps : Keeps base old text).
    fault-keeps base is law old.fault some text piece old.len (held_group old) old.ended keeps in
    record {
      keeps = λ text keeps. (next text keeps).0;
      decodes = λ text keeps. (next text keeps).1 ∙ sym (append-nil _);
      counted = refl;
      few = λ more.
          omega (arith, most-grows base width old more (length piece + more) (omega arith));
    }

-- what follows is written after what was written
length-written : (written : ℕ) (output part : List ℕ) → written ≤ length output
    → length part ≡ length (take (length output - written) (drop written output))
    → length (put_mid written (length output - written) output part) ≡ length output
length-written written output part fits same =
    let front = length-take-le written output fits in
    let left = length-left written output in
    omega (arith, length-append {A = ℕ}, length-drop {A = ℕ}, front, left, same)

within-written : (written more : ℕ) (output part : List ℕ) → written ≤ length output
    → length part ≡ length (take (length output - written) (drop written output))
    → more ≤ length part
    → written + more ≤ length (put_mid written (length output - written) output part)
within-written written more output part fits same few =
    let all = length-written written output part fits same in
    let left = length-left written output in
    omega (arith, all, left, same, few)

take-written : (written more : ℕ) (output part : List ℕ) → written ≤ length output
    → more ≤ length part
    → take (written + more) (put_mid written (length output - written) output part)
    ≡ take written output ++ take more part
take-written written more output part fits few =
    let front = length-take-le written output fits in
    let post = drop (length output - written) (drop written output) in
    ap (λ k. take (k + more) (take written output ++ (part ++ post))) (sym front)
    ∙ take-append-add (take written output) (part ++ post) more
    ∙ ap (λ bs. take written output ++ bs) (take-append-le more part post few)

-- This much of a piece was read, and the output starts with what it decodes to.
pub record ReadsFront (base : Base) (old now : Kept) (piece output : List ℕ) (read written : ℕ)
    : Type 0 where
  pub reads : ReadsOn base old now (take read piece) (take written output)
  pub begins : read ≤ length piece
  pub fits : written ≤ length output

pub reads-front : {base : Base} {old now : Kept} {piece output : List ℕ} {read written : ℕ}
    → ReadsOn base old now (take read piece) (take written output) → read ≤ length piece
    → written ≤ length output → ReadsFront base old now piece output read written
reads-front reads begins fits = record { reads = reads; begins = begins; fits = fits }

module _ {base : Base} {old now : Kept} {piece output : List ℕ} {read written : ℕ}
    (front : ReadsFront base old now piece output read written) where
  -- the output has room for the rest of the piece
  pub rest-room : most_completed base old (length piece) ≤ length output
      → most_completed base now (length (take (length piece - read) (drop read piece)))
      ≤ length (take (length output - written) (drop written output))
  rest-room room =
      let few =
      rw (length-take-le read piece front.begins, length-take-le written output front.fits)
      at front.reads.few (length piece - read) in
      let all : read + (length piece - read) ≡ length piece = omega (arith, front.begins) in
      let less = rw all at few in
      rw (length-left read piece, length-left written output) (omega (arith, less, room))

  -- and for another byte
  pub next-room : IsWidth base.width → read < length piece
      → most_completed base old (length piece) ≤ length output
      → most_completed base now 1 ≤ length (take (length output - written) (drop written output))
  next-room width some room =
      let left = take (length piece - read) (drop read piece) in
      let one =
      most-grows base width now 1 (length left) (rw (length-left read piece) (omega (arith, some)))
      in omega (arith, one, rest-room room)

  -- what follows decodes to nothing
  pub reads-after : {new : Kept}
      → ReadsOn base now new (take (length piece - read) (drop read piece)) []
      → ReadsOn base old new piece (take written output)
  reads-after {new} rest =
      subst (ReadsOn base old new piece) (append-nil (take written output))
      (subst (λ whole. ReadsOn base old new whole (take written output ++ []))
      (take-append-drop read piece)
      (reads-join base old now new _ _ _ _ front.reads (rw (take_rest piece read) at rest)))

  -- what follows is written after what was written
  module _ (part : List ℕ) {more : ℕ}
      (same : length part ≡ length (take (length output - written) (drop written output)))
      (few : more ≤ length part) where
    pub length-both : length (put_mid written (length output - written) output part)
        ≡ length output
    length-both = length-written written output part front.fits same

    pub within-both : written + more
        ≤ length (put_mid written (length output - written) output part)
    within-both = within-written written more output part front.fits same few

    -- a byte
    pub reads-next : {new : Kept} → ReadsOn base now new (get_or piece read 0 ∷ []) (take more part)
        → read < length piece
        → ReadsFront base old new piece (put_mid written (length output - written) output part)
        (read + 1) (written + more)
    reads-next {new} byte some = record {
      reads =
          rw (take-written written more output part front.fits few, take_more piece read 0 some)
          (reads-join base old now new _ _ _ _ front.reads byte);
      begins = omega (arith, some);
      fits = within-both;
    }

    -- a slice
    pub reads-part : {new : Kept} (count : ℕ)
        → count ≤ length (take (length piece - read) (drop read piece))
        → ReadsOn base now new (take count (take (length piece - read) (drop read piece)))
        (take more part)
        → ReadsFront base old new piece (put_mid written (length output - written) output part)
        (read + count) (written + more)
    reads-part {new} count within other = record {
      reads =
          rw (take-written written more output part front.fits few, take-add read count piece)
          (reads-join base old now new _ _ _ _ front.reads (rw (take_rest piece read) at other));
      begins = omega (arith, within, length-left read piece, front.begins);
      fits = within-both;
    }

    -- all that is left
    pub reads-rest : {new : Kept}
        → ReadsOn base now new (take (length piece - read) (drop read piece)) (take more part)
        → ReadsOn base old new piece
        (take (written + more) (put_mid written (length output - written) output part))
    reads-rest {new} rest =
        rw (take-written written more output part front.fits few)
        (subst (λ whole. ReadsOn base old new whole (take written output ++ take more part))
        (take-append-drop read piece)
        (reads-join base old now new _ _ _ _ front.reads (rw (take_rest piece read) at rest)))
