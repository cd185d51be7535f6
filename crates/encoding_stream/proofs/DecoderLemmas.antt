-- A text that comes in pieces, and what is appended for it.
use Rattle.std.proofs.Common.{◌≡◌, ℕ, ◌+◌, ◌≤◌, List, [], ◌++◌, length, take, drop, ◌-◌, sym, ap, ◌∙◌, subst, arith, append-nil, append_assoc, length-append, length-take-le}
use Rattle.std.proofs.lemmas.List.{length-drop, nil_from_length, take-append-drop, take-take, drop-take}
use Rattle.data_encoding.specs.Base.{Base}
use Rattle.data_encoding.specs.Fields.{IsSpecified}
use Rattle.data_encoding.specs.Pieces.{whole_bytes, KeepsBytes}
use Rattle.encoding_stream.specs.declared.buffer_decoder.Kept.{Kept}
use Rattle.encoding_stream.specs.Appending.{AppendsDecoded}
use Rattle.encoding_stream.specs.BufferDecoder.{most_completed, Keeps}
use Rattle.encoding_stream.specs.Reading.{AppendsPiece}
use Rattle.encoding_stream.proofs.ReadPieceLemmas.{reads-join, reads-nothing}

-- room for the rest of a piece is room for a slice of it and for what is then left
pub room-both : {base other : Base} (kept : Kept) (piece : List ℕ) (read end used capacity : ℕ)
    → other ≡ base → read ≤ end → end ≤ length piece
    → used + most_completed base kept (length piece - read) ≤ capacity
    → used + most_completed other kept
    (length (take (end - read) (drop read piece)) + (length piece - end)) ≤ capacity
room-both {base} {other} kept piece read end used capacity same within inside room =
    let length-part : length (take (end - read) (drop read piece)) ≡ end - read =
    length-take-le (end - read) (drop read piece)
    (omega (arith, length-drop read piece, within, inside)) in
    let left : length piece - read
    ≡ length (take (end - read) (drop read piece)) + (length piece - end) =
    omega (arith, length-part, within, inside) in
    subst (λ b. used + most_completed b kept
    (length (take (end - read) (drop read piece)) + (length piece - end)) ≤ capacity) (sym same)
    (subst (λ n. used + most_completed base kept n ≤ capacity) left room)

-- a slice of a piece after the prefix before it
front-next : (piece : List ℕ) (read end : ℕ) → read ≤ end
    → take read piece ++ take (end - read) (drop read piece) ≡ take end piece
front-next piece read end within =
    let front : take read (take (read + (end - read)) piece) ≡ take read piece =
    take-take read (read + (end - read)) piece (omega arith) in
    let joined : take read piece ++ take (end - read) (drop read piece)
    ≡ take (read + (end - read)) piece =
    rw (← front, ← drop-take read (end - read) piece)
    (take-append-drop read (take (read + (end - read)) piece)) in
    joined ∙ ap (λ n. take n piece) (omega (arith, within))

module _ (base : Base) where
  pub appends-nothing : (kept : Kept) (output : List ℕ)
      → AppendsPiece base kept kept [] output output
  appends-nothing kept output = record {
    bytes = [];
    reads = reads-nothing base kept;
    appended = sym (append-nil output);
  }

  appends-join : (a b c : Kept) (p q x y z : List ℕ) → AppendsPiece base a b p x y
      → AppendsPiece base b c q y z → AppendsPiece base a c (p ++ q) x z
  appends-join a b c p q x y z one other = record {
    bytes = one.bytes ++ other.bytes;
    reads = reads-join base a b c p q one.bytes other.bytes one.reads other.reads;
    appended =
        other.appended
        ∙ ap (λ l. l ++ other.bytes) one.appended
        ∙ append_assoc x one.bytes other.bytes;
  }

  -- a slice of a piece is read after the prefix before it
  pub appends-next : (a b c : Kept) (piece : List ℕ) (read end : ℕ) (x y z : List ℕ)
      → read ≤ end → AppendsPiece base a b (take read piece) x y
      → AppendsPiece base b c (take (end - read) (drop read piece)) y z
      → AppendsPiece base a c (take end piece) x z
  appends-next a b c piece read end x y z within one other =
      subst (λ p. AppendsPiece base a c p x z) (front-next piece read end within)
      (appends-join a b c _ _ x y z one other)

  -- what is appended for a piece, seen from a text
  pub piece-appended : (a b : Kept) (piece x y text : List ℕ) → AppendsPiece base a b piece x y
      → Keeps base a text
      → AppendsDecoded (whole_bytes base text) (whole_bytes base (text ++ piece)) x y
  piece-appended a b piece x y text appends is = record {
    bytes = appends.bytes;
    decoded = appends.reads.decodes text is;
    appended = appends.appended;
  }

  -- if a piece adds no byte, its prefix adds none
  pub front-adds-none : IsSpecified base → KeepsBytes → (text front rest bytes : List ℕ)
      → whole_bytes base (text ++ front) ≡ whole_bytes base text ++ bytes
      → whole_bytes base (text ++ (front ++ rest)) ≡ whole_bytes base text
      → length bytes ≤ 0
  front-adds-none is law text front rest bytes first none =
      let more = law base is (text ++ front) rest in
      let lengths : length (whole_bytes base text)
      ≡ length ((whole_bytes base text ++ bytes) ++ more.0) =
      ap length (sym none ∙ ap (whole_bytes base) (sym (append_assoc text front rest)) ∙ more.1
      ∙ ap (λ l. l ++ more.0) first) in
      omega (
        arith,
        lengths,
        length-append (whole_bytes base text ++ bytes) more.0,
        length-append (whole_bytes base text) bytes,
      )

  -- and the next part of it adds none
  pub part-adds-none : IsSpecified base → KeepsBytes → (text piece : List ℕ) (read end : ℕ)
      → read ≤ end → whole_bytes base (text ++ piece) ≡ whole_bytes base text
      → whole_bytes base ((text ++ take read piece) ++ take (end - read) (drop read piece))
      ≡ whole_bytes base (text ++ take read piece)
  part-adds-none is law text piece read end within none =
      let same : (cut : ℕ) → whole_bytes base (text ++ take cut piece) ≡ whole_bytes base text =
      λ cut.
      let more = law base is text (take cut piece) in
      let nothing : more.0 ≡ [] =
      nil_from_length more.0
      (omega (
        arith,
        front-adds-none is law text (take cut piece) (drop cut piece) more.0 more.1
            (ap (λ p. whole_bytes base (text ++ p)) (take-append-drop cut piece) ∙ none),
      )) in
      more.1 ∙ ap (λ l. whole_bytes base text ++ l) nothing ∙ append-nil (whole_bytes base text) in
      ap (whole_bytes base)
      (append_assoc text (take read piece) (take (end - read) (drop read piece))
      ∙ ap (λ l. text ++ l) (front-next piece read end within))
      ∙ same end ∙ sym (same read)

-- if a piece adds no byte, it decodes to none
pub adds-none : (base : Base) (text piece bytes : List ℕ)
    → whole_bytes base (text ++ piece) ≡ whole_bytes base text ++ bytes
    → whole_bytes base (text ++ piece) ≡ whole_bytes base text → length bytes ≤ 0
adds-none base text piece bytes adds none =
    omega (arith, ap length (sym none ∙ adds), length-append (whole_bytes base text) bytes)

-- what is appended follows what was there before
pub appended-after : (before : List ℕ) {old new x y : List ℕ} → x ≡ before ++ old
    → AppendsDecoded old new x y → y ≡ before ++ new
appended-after before {old} is appends =
    appends.appended ∙ ap (λ l. l ++ appends.bytes) is ∙ append_assoc before old appends.bytes
    ∙ ap (λ l. before ++ l) (sym appends.decoded)
