use Rattle.std.proofs.Common.{◌≡◌, ℕ, ◌+◌, ◌%◌, ◌<◌, ◌≤◌, ◌⊎◌, ⊎_elim, inl, inr, List, ◌++◌, length, length-append, length-take, drop, take, refl, sym, ap, ◌∙◌, arith, length-take-le}
use Rattle.std.proofs.lemmas.Bool.{cases_lt}
use Rattle.std.proofs.lemmas.Option.{IfSome_then}
use Rattle.std.proofs.lemmas.List.{length-drop, take-append-le}
use Rattle.std.specs.Io.KnownBytes.{IsAtEnd}
use Rattle.std.proofs.KnownBytes.{Appends-kept}
use Rattle.data_encoding.specs.Base.{Base}
use Rattle.data_encoding.specs.Lengths.{alignment}
use Rattle.encoding_stream.specs.Watch.{inner_of}
use Rattle.encoding_stream.proofs.WriteLemmas.{AppendsFront-nothing}
use Rattle.encoding_stream.proofs.EncodedLemmas.{all-front, all-known, encoded-all, encoded-front, encoded-more, encoded-nothing, encoded-past, filled-len, front-nothing, front-of_rest}
use Rattle.encoding_stream.proofs.DecodedLemmas.{each_some, not-both, past-few}
use Rattle.encoding_stream.proofs.stream_encoding.encode_stream.Goals as goal

-- a full buffer has whole blocks
full-whole : (base : Base) (asked count : ℕ) (buffer : List ℕ) → asked % alignment base ≡ 0
    → length buffer ≡ asked → count ≤ length buffer → length buffer ≤ count
    → length (take count buffer) % alignment base ≡ 0
full-whole base asked count buffer whole filled few full =
    ap (λ n. n % alignment base)
    (length-take-le count buffer few ∙ omega (arith, few, full, filled)) ∙ whole

pub loop-count-init : goal.loop-count-init
loop-count-init g c = record {
  encoded =
      encoded-nothing c.args.encoding.now c.encode_piece_len-piece.ensures.base
      c.join_encode.ensures.join _ _;
  reader_works = c.requires.reader_works;
  writer_works = c.requires.writer_works;
  chunk = refl;
  room = refl;
}

pub returns-in-Err-clause-begun : goal.returns-in-Err-clause-begun
returns-in-Err-clause-begun g c =
    let more = c.in-Err.ensures.begun in
    encoded-front c.args.encoding.now c.encode_piece_len-piece.ensures.base
    c.join_encode.ensures.join _ _ _ _ _ c.loop-count.total c.loop-count.invariant.encoded
    more.0 more.1 _
    (AppendsFront-nothing _ _) (front-nothing c.args.encoding.now _ _)

pub returns-then-count-left-clause-begun : goal.returns-then-count-left-clause-begun
returns-then-count-left-clause-begun g c =
    encoded-front c.args.encoding.now c.encode_piece_len-piece.ensures.base
    c.join_encode.ensures.join _ _ _ _ _ c.loop-count.total c.loop-count.invariant.encoded _
    c.in-Ok.ensures.bytes _
    (AppendsFront-nothing _ _) (front-nothing c.args.encoding.now _ _)

pub returns-then-count-left-clause-too_long : goal.returns-then-count-left-clause-too_long
returns-then-count-left-clause-too_long g c =
    let more = take c.in-Ok.count c.fill.new.buffer in
    let taken : length more ≡ c.in-Ok.count =
    length-take-le c.in-Ok.count c.fill.new.buffer c.in-Ok.ensures.bound in
    λ _. encoded-past c.args.encoding.now c.encode_piece_len-piece.ensures.base
    c.join_encode.ensures.join _ _ _ _ _
    c.loop-count.total c.loop-count.invariant.encoded more c.in-Ok.ensures.bytes _
    (omega (arith, taken, c.if-count-left.true))

pub returns-in_default-clause-begun : goal.returns-in_default-clause-begun
returns-in_default-clause-begun g c =
    let base = c.args.encoding.now in
    let count = c.in-Ok.count in
    let asked = c.asked_for-asked.result in
    let more = take count c.fill.new.buffer in
    let piece =
    take-append-le count c.fill.new.buffer (drop asked c.loop-count.buffer)
    c.in-Ok.ensures.bound in
    let filled =
    filled-len c.loop-count.buffer c.fill.new.buffer c.fill.auto.buffer
    c.asked_for-asked.ensures.few c.encode_piece_len-piece.ensures.few c.loop-count.invariant.chunk
    in
    let ends : IsAtEnd (g.R.Read.remaining (inner_of c.fill.new.reader))
    ⊎ (length more % alignment base ≡ 0) =
    ⊎_elim
    (λ (short : count < length c.fill.new.buffer). inl (c.in-Ok.ensures.at_end short))
    (λ (full : length c.fill.new.buffer ≤ count). inr (full-whole base asked count
    c.fill.new.buffer (ap (λ n. n % alignment base) (c.asked_for-asked.ensures.whole
    (omega (arith, full, filled, c.if-count-left.false)))
    ∙ c.encode_piece_len-piece.ensures.whole) filled c.in-Ok.ensures.bound full))
    (cases_lt count (length c.fill.new.buffer)) in
    let front = rw piece at c.write_text.ensures.begun in
    encoded-front base c.encode_piece_len-piece.ensures.base c.join_encode.ensures.join
    _ _ _ _ _ c.loop-count.total c.loop-count.invariant.encoded _ c.in-Ok.ensures.bytes _ front
    (front-of_rest base c.encode_piece_len-piece.ensures.base c.join_encode.ensures.join
    _ _ _ _ more c.in-Ok.ensures.bytes ends front)

pub returns-in-Ok-flush-clause-whole : goal.returns-in-Ok-flush-clause-whole
returns-in-Ok-flush-clause-whole g c =
    let count = c.in-Ok.count in
    let asked = c.asked_for-asked.result in
    let piece =
    take-append-le count c.fill.new.buffer (drop asked c.loop-count.buffer)
    c.in-Ok.ensures.bound in
    let filled =
    filled-len c.loop-count.buffer c.fill.new.buffer c.fill.auto.buffer
    c.asked_for-asked.ensures.few c.encode_piece_len-piece.ensures.few c.loop-count.invariant.chunk
    in
    encoded-all c.args.encoding.now c.encode_piece_len-piece.ensures.base c.join_encode.ensures.join
    _ _ _ _ _ c.loop-count.total c.loop-count.invariant.encoded _ c.in-Ok.ensures.bytes _
    (c.in-Ok.ensures.at_end (omega (arith, filled, c.if-count-asked.true)))
    (Appends-kept _ _ _ _ (rw piece at c.in-Ok-write_text.ensures.text)
    c.in-Ok-flush.ensures.bytes)

pub returns-in-Ok-flush-clause-all_written : goal.returns-in-Ok-flush-clause-all_written
returns-in-Ok-flush-clause-all_written g c =
    all-known _ _ _ _ _ (returns-in-Ok-flush-clause-whole g c)

pub returns-in-Ok-flush-clause-begun : goal.returns-in-Ok-flush-clause-begun
returns-in-Ok-flush-clause-begun g c =
    all-front _ _ _ _ _ (returns-in-Ok-flush-clause-whole g c)

pub returns-in-Err-flush-clause-begun : goal.returns-in-Err-flush-clause-begun
returns-in-Err-flush-clause-begun g c =
    let count = c.in-Ok.count in
    let asked = c.asked_for-asked.result in
    let piece =
    take-append-le count c.fill.new.buffer (drop asked c.loop-count.buffer)
    c.in-Ok.ensures.bound in
    let filled =
    filled-len c.loop-count.buffer c.fill.new.buffer c.fill.auto.buffer
    c.asked_for-asked.ensures.few c.encode_piece_len-piece.ensures.few c.loop-count.invariant.chunk
    in
    all-front c.args.encoding.now _ _ _ _
    (encoded-all c.args.encoding.now c.encode_piece_len-piece.ensures.base
    c.join_encode.ensures.join _ _ _ _ _ c.loop-count.total c.loop-count.invariant.encoded _
    c.in-Ok.ensures.bytes _
    (c.in-Ok.ensures.at_end (omega (arith, filled, c.if-count-asked.true)))
    (Appends-kept _ _ _ _ (rw piece at c.in-Ok-write_text.ensures.text)
    c.in-Err-flush.ensures.bytes))

pub loop-count-preserved : goal.loop-count-preserved
loop-count-preserved g c =
    let count = c.in-Ok.count in
    let asked = c.asked_for-asked.result in
    let piece =
    take-append-le count c.fill.new.buffer (drop asked c.loop-count.buffer)
    c.in-Ok.ensures.bound in
    let filled =
    filled-len c.loop-count.buffer c.fill.new.buffer c.fill.auto.buffer
    c.asked_for-asked.ensures.few c.encode_piece_len-piece.ensures.few c.loop-count.invariant.chunk
    in
    let more = take count c.fill.new.buffer in
    let taken : length more ≡ count =
    length-take-le count c.fill.new.buffer c.in-Ok.ensures.bound in
    let whole =
    full-whole c.args.encoding.now asked count c.fill.new.buffer
    (ap (λ n. n % alignment c.args.encoding.now) (c.asked_for-asked.ensures.whole
    (omega (arith, c.if-count-asked.false, c.if-count-left.false)))
    ∙ c.encode_piece_len-piece.ensures.whole) filled c.in-Ok.ensures.bound
    (omega (arith, filled, c.if-count-asked.false)) in
    let sum : c.loop-count.total + length more ≡ c.loop-count.total + count =
    ap (λ n. c.loop-count.total + n) taken in
    let encoded =
    encoded-more c.args.encoding.now c.encode_piece_len-piece.ensures.base
    c.join_encode.ensures.join _ _ _ _ _ c.loop-count.total c.loop-count.invariant.encoded _
    c.in-Ok.ensures.bytes _ whole
    (rw piece at c.in-Ok-write_text.ensures.text) in
    record {
      encoded = rw (← sum) encoded;
      reader_works = c.in-Ok.ensures.failed;
      writer_works = c.in-Ok-write_text.ensures.failed;
      chunk =
          length-append c.fill.new.buffer (drop asked c.loop-count.buffer)
          ∙ omega (
            arith,
            filled,
            length-drop asked c.loop-count.buffer,
            c.asked_for-asked.ensures.few,
            c.encode_piece_len-piece.ensures.few,
            c.loop-count.invariant.chunk,
          );
      room = c.write_text.auto.output ∙ c.loop-count.invariant.room;
    }

pub returns-then-count-left-clause-read : goal.returns-then-count-left-clause-read
returns-then-count-left-clause-read g c =
    (λ same. cc, λ failed. not-both _ failed c.in-Ok.ensures.failed)

pub returns-then-count-left-clause-succeeds : goal.returns-then-count-left-clause-succeeds
returns-then-count-left-clause-succeeds g c =
    IfSome_then (g.R.Read.remaining (inner_of c.args.reader.now))
    (past-few 18446744073709551615 _ _ (λ bytes. ⊥)
    (returns-then-count-left-clause-too_long g c refl))
    (λ bytes fails few. absurd (fails (omega (arith, few))))

pub write_text-requires-clause-fits : goal.write_text-requires-clause-fits
write_text-requires-clause-fits g c =
    let buffer = c.fill.new.buffer ++ drop c.asked_for-asked.result c.loop-count.buffer in
    let more = take c.in-Ok.count buffer in
    omega (
      arith,
      c.encode_piece_len-piece.ensures.fits more (omega (
        arith,
        length-take c.in-Ok.count buffer,
        c.in-Ok.ensures.bound,
        c.fill.auto.buffer,
        length-take c.asked_for-asked.result c.loop-count.buffer,
        c.asked_for-asked.ensures.few,
      )),
      c.loop-count.invariant.room,
    )

pub asked_for-asked-requires : goal.asked_for-asked-requires
asked_for-asked-requires g c = c.encode_piece_len-piece.ensures.some

pub slice_bounds-write_text-end : goal.slice_bounds-write_text-end
slice_bounds-write_text-end g c =
    sym (length-take-le c.in-Ok.count _ (simp length-append (omega (arith, c.in-Ok.ensures.bound))))

pub write_text-requires-clause-limit : goal.write_text-requires-clause-limit
write_text-requires-clause-limit g c =
    simp length-take (omega (arith, c.in-Ok.ensures.bound))

pub returns-in-Ok-flush-clause-succeeds : goal.returns-in-Ok-flush-clause-succeeds
returns-in-Ok-flush-clause-succeeds g c =
    each_some (g.R.Read.remaining (inner_of c.args.reader.now)) (λ bytes few read write. refl)

pub returns-in-Ok-flush-clause-read : goal.returns-in-Ok-flush-clause-read
returns-in-Ok-flush-clause-read g c =
    (λ same. cc, λ failed. not-both _ failed c.in-Ok.ensures.failed)

pub loop-count-smaller : goal.loop-count-smaller
loop-count-smaller g c =
    omega (
      arith,
      c.if-count-asked.false,
      c.if-count-left.false,
      c.asked_for-asked.ensures.some,
    )
