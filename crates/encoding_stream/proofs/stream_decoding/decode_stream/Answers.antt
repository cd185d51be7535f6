use Rattle.std.proofs.Common.{◌≡◌, ◌≤◌, ◌++◌, length, length-take, length-append, drop, take, refl, sym, ◌∙◌, subst, arith, length-take-le, false}
use Rattle.std.proofs.lemmas.List.{length-drop, take-append-le}
use Rattle.std.proofs.lemmas.Bool.{false≢true}
use Rattle.std.specs.Io.KnownBytes.{IsAtEnd}
use Rattle.std.proofs.KnownBytes.{Consumes-whole}
use Rattle.data_encoding.specs.Fault.{fault_of}
use Rattle.encoding_stream.specs.Decoded.{result_of, EndsText}
use Rattle.encoding_stream.specs.BufferDecoder.{base_of_pieces, Keeps}
use Rattle.encoding_stream.specs.Watch.{has_failed, inner_of}
use Rattle.encoding_stream.proofs.DecodedLemmas.{decoded-front, decoded-more, decoded-nothing, decoded-only, decoded-past, each_some, end-error, end-ok, end-other, end-write, ended-all, ended-front, front-all, not-both, on-works, past-few, reads-buffer}
use Rattle.encoding_stream.proofs.ReadByteLemmas.{keeps-bytes}
use Rattle.encoding_stream.proofs.ReadPieceLemmas.{most-short}
use Rattle.encoding_stream.proofs.SizeLemmas.{symbols-few}
use Rattle.encoding_stream.proofs.stream_decoding.decode_stream.Goals as goal

pub loop-count-init : goal.loop-count-init
loop-count-init g c = record {
  base = c.new-pieces.ensures.base;
  decoded =
      decoded-nothing c.args.encoding.now c.new-pieces.ensures.specified
      c.new-pieces.ensures.no_bytes
      c.new-pieces.result.kept c.new-pieces.ensures.nothing _ _;
  reader_works = c.requires.reader_works;
  writer_works = c.requires.writer_works;
  limit = omega (arith, c.new-pieces.ensures.nothing.counted);
  chunk = refl;
  room = refl;
}

pub loop-count-preserved : goal.loop-count-preserved
loop-count-preserved g c =
    let base = c.args.encoding.now in
    let now = c.loop-count.invariant in
    let count = c.in-Ok.count in
    let asked = c.min-asked.result in
    let more = take count c.fill.new.buffer in
    let reads =
    reads-buffer base (base_of_pieces c.loop-count.pieces) now.base c.loop-count.pieces.kept
    c.read-written.new.self.kept c.fill.new.buffer (drop asked c.loop-count.buffer) count
    (take c.read-written.result c.read-written.new.output) c.in-Ok.ensures.bound
    c.read-written.ensures.reads in
    let taken : length more ≡ count =
    length-take-le count c.fill.new.buffer c.in-Ok.ensures.bound in
    let few : asked ≤ length c.loop-count.buffer = omega (arith, c.min-asked.ensures, now.chunk) in
    let filled : length c.fill.new.buffer ≡ asked =
    c.fill.auto.buffer ∙ length-take-le asked c.loop-count.buffer few in
    record {
      base = c.read-written.ensures.base ∙ now.base;
      decoded =
          decoded-more base c.new-pieces.ensures.specified now.decoded c.in-Ok.ensures.bytes reads
          (on-works c.write_all.result c.if-is_err.ensures.value c.write_all.ensures.bytes);
      reader_works = c.in-Ok.ensures.failed;
      writer_works =
          (rw now.writer_works at c.write_all.ensures.failed) ∙ sym c.if-is_err.ensures.value;
      limit = omega (arith, reads.counted, taken, c.if-count-left.false, now.limit);
      chunk =
          length-append c.fill.new.buffer (drop asked c.loop-count.buffer)
          ∙ omega (arith, filled, length-drop asked c.loop-count.buffer, few, now.chunk);
      room = c.read-written.ensures.len ∙ now.room;
    }

pub returns-in-Err-clause-begun : goal.returns-in-Err-clause-begun
returns-in-Err-clause-begun g c =
    let more = c.in-Err.ensures.begun in
    let laws = c.new-pieces.result.laws in
    decoded-only c.args.encoding.now c.new-pieces.ensures.specified (keeps-bytes laws.front)
    laws.bytes c.loop-count.invariant.decoded
    more.0 more.1

pub returns-then-count-left-clause-begun : goal.returns-then-count-left-clause-begun
returns-then-count-left-clause-begun g c =
    let laws = c.new-pieces.result.laws in
    decoded-only c.args.encoding.now c.new-pieces.ensures.specified (keeps-bytes laws.front)
    laws.bytes c.loop-count.invariant.decoded
    (take c.in-Ok.count c.fill.new.buffer) c.in-Ok.ensures.bytes

pub returns-then-count-left-clause-too_long : goal.returns-then-count-left-clause-too_long
returns-then-count-left-clause-too_long g c =
    let more = take c.in-Ok.count c.fill.new.buffer in
    let taken : length more ≡ c.in-Ok.count =
    length-take-le c.in-Ok.count c.fill.new.buffer c.in-Ok.ensures.bound in
    λ _. decoded-past c.loop-count.invariant.decoded more c.in-Ok.ensures.bytes 2305843009213693951
    (omega (arith, taken, c.if-count-left.true))

pub returns-then-count-left-clause-judges : goal.returns-then-count-left-clause-judges
returns-then-count-left-clause-judges g c =
    past-few 2305843009213693951 _ _ _ (returns-then-count-left-clause-too_long g c refl)

pub returns-then-is_err-clause-begun : goal.returns-then-is_err-clause-begun
returns-then-is_err-clause-begun g c =
    let laws = c.new-pieces.result.laws in
    let base = c.args.encoding.now in
    let now = c.loop-count.invariant in
    let count = c.in-Ok.count in
    let bytes = take c.read-written.result c.read-written.new.output in
    let reads =
    reads-buffer base (base_of_pieces c.loop-count.pieces) now.base c.loop-count.pieces.kept
    c.read-written.new.self.kept c.fill.new.buffer (drop c.min-asked.result c.loop-count.buffer)
    count bytes c.in-Ok.ensures.bound c.read-written.ensures.reads in
    decoded-front base c.new-pieces.ensures.specified now.decoded c.in-Ok.ensures.bytes reads
    (keeps-bytes laws.front) laws.bytes c.write_all.ensures.begun

pub returns-then-count-asked : goal.returns-then-count-asked
returns-then-count-asked g c =
    let base = c.args.encoding.now in
    let now = c.loop-count.invariant in
    let count = c.in-Ok.count in
    let asked = c.min-asked.result in
    let next = c.read-written.new.self in
    let result = c.end.result in
    let failed = has_failed c.end.new.writer in
    let reads =
    reads-buffer base (base_of_pieces c.loop-count.pieces) now.base c.loop-count.pieces.kept
    next.kept c.fill.new.buffer (drop asked c.loop-count.buffer) count
    (take c.read-written.result c.read-written.new.output) c.in-Ok.ensures.bound
    c.read-written.ensures.reads in
    let few : asked ≤ length c.loop-count.buffer = omega (arith, c.min-asked.ensures, now.chunk) in
    let filled : length c.fill.new.buffer ≡ asked =
    c.fill.auto.buffer ∙ length-take-le asked c.loop-count.buffer few in
    let at_end : IsAtEnd (g.R.Read.remaining (inner_of c.fill.new.reader)) =
    c.in-Ok.ensures.at_end (omega (arith, filled, c.if-count-asked.true)) in
    let done =
    decoded-more base c.new-pieces.ensures.specified now.decoded c.in-Ok.ensures.bytes reads
    (on-works c.write_all.result c.if-is_err.ensures.value c.write_all.ensures.bytes) in
    let is : base_of_pieces next ≡ base = c.read-written.ensures.base ∙ now.base in
    let ends =
    subst
    (λ b. EndsText b next.kept failed (g.W.Write.contents (inner_of c.write_all.new.self))
    (g.W.Write.contents (inner_of c.end.new.writer))) is c.end.ensures.last in
    let fault = fault_of base done.text in
    let judged : failed ≡ false → result ≡ result_of fault =
    λ works. subst (λ b. result ≡ result_of (fault_of b done.text)) is
    (c.end.ensures.verdict done.text (subst (λ b. Keeps b next.kept done.text) (sym is) done.keeps)
    works) in
    let write = c.end.ensures.write in
    let other = end-other failed result fault write judged in
    let reader_works : has_failed c.fill.new.reader ≡ false = c.in-Ok.ensures.failed in
    record {
      all_read = end-ok failed result fault write judged (λ works sound. at_end);
      all = record {
        whole =
            end-ok failed result fault write judged (λ works sound. record {
              text = done.text;
              read = done.read;
              at_end = at_end;
              fault_is = sound;
              written = ended-all done ends works;
            });
        faulty = λ error returned.
            let because = end-error failed result fault write judged error returned in
            record {
              text = done.text;
              read = done.read;
              at_end = at_end;
              fault_is = because.1;
              written = ended-all done ends because.0;
            };
      };
      begun =
          front-all base c.new-pieces.ensures.specified _ _ _ _ done.text done.read at_end
          (ended-front done ends);
      judges =
          Consumes-whole _ _ done.text
          (λ text. length text ≤ 2305843009213693951 → has_failed c.fill.new.reader ≡ false
          → failed ≡ false → result ≡ result_of (fault_of base text))
          done.read at_end (λ few reads works. judged works);
      read = (
        λ returned. absurd (other.0 returned),
        λ err. not-both (has_failed c.fill.new.reader) err reader_works,
      );
      write = (end-write failed result fault write judged, write);
      too_long = λ returned. absurd (other.1 returned);
    }

pub read-written-requires-clause-room : goal.read-written-requires-clause-room
read-written-requires-clause-room g c =
    let s = c.loop-count.pieces in
    let base = base_of_pieces s in
    let buffer = c.fill.new.buffer ++ drop c.min-asked.result c.loop-count.buffer in
    let piece = take c.in-Ok.count buffer in
    omega (
      arith,
      most-short base s.width s.kept (length piece),
      length-take c.in-Ok.count buffer,
      s.short,
      symbols-few base.width s.width,
      c.in-Ok.ensures.bound,
      c.fill.auto.buffer,
      length-take c.min-asked.result c.loop-count.buffer,
      c.min-asked.ensures,
      c.loop-count.invariant.room,
    )

pub returns-then-is_err-clause-judges : goal.returns-then-is_err-clause-judges
returns-then-is_err-clause-judges g c =
    each_some (g.R.Read.remaining (inner_of c.args.reader.now))
    (λ _ _ _ works. absurd (false≢true (sym works
    ∙ (rw c.loop-count.invariant.writer_works at c.write_all.ensures.failed)
    ∙ sym c.if-is_err.ensures.value)))

pub slice_bounds-read-end : goal.slice_bounds-read-end
slice_bounds-read-end g c =
    sym (length-take-le c.in-Ok.count _ (simp length-append (omega (arith, c.in-Ok.ensures.bound))))

pub read-written-requires-clause-limit : goal.read-written-requires-clause-limit
read-written-requires-clause-limit g c =
    simp length-take (omega (arith, c.if-count-left.false, c.loop-count.invariant.limit))

pub loop-count-smaller : goal.loop-count-smaller
loop-count-smaller g c =
    let piece =
    take-append-le c.in-Ok.count c.fill.new.buffer
    (drop c.min-asked.result c.loop-count.buffer) c.in-Ok.ensures.bound in
    omega (
      arith,
      rw piece at c.read-written.ensures.reads.counted,
      length-take-le c.in-Ok.count c.fill.new.buffer c.in-Ok.ensures.bound,
      c.if-count-asked.false,
      c.if-count-left.false,
      c.min-asked.ensures,
      c.loop-count.invariant.limit,
    )
