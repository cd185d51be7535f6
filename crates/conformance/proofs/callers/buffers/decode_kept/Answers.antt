use Rattle.std.proofs.Common.{◌≡◌, [], ◌++◌, take, sym, ap, ◌∙◌, subst, arith, None, IsSome}
use Rattle.encoding_stream.specs.declared.buffer_decoder.BufferDecoder.{BufferDecoder}
use Rattle.data_encoding.specs.Fault.{fault_of, sound_bytes}
use Rattle.data_encoding.specs.Grammar.{Means}
use Rattle.encoding_stream.specs.BufferDecoder.{kept_by, verdict_of, Keeps}
use Rattle.encoding_stream.specs.Reading.{ReadsOn}
use Rattle.conformance.proofs.StreamedLemmas.{no-fault-ok}
use Rattle.conformance.proofs.callers.buffers.decode_kept.Goals as goal

pub unreachable-requires : goal.unreachable-requires
unreachable-requires c =
    let base = c.args.encoding.now in
    let piece = c.args.piece.now in
    let read = c.read-in_front in
    let first : ReadsOn base (kept_by c.new-decoder.result) (kept_by read.new.self) piece
    (take read.result read.new.output) = rw c.new-decoder.ensures.base at read.ensures.reads in
    let keeps : Keeps base c.kept-kept.result piece =
    subst (λ kept. Keeps base kept piece) (sym c.kept-kept.ensures.value)
    (first.keeps [] c.new-decoder.ensures.nothing) in
    let none : IsSome {T = BufferDecoder} None =
    subst IsSome c.in_default.is
    (c.resumed.ensures.resumes (record {
      text = piece;
      keeps = keeps;
      limit = omega (arith, c.requires.limit);
      clear = c.kept-kept.ensures.clear;
    })) in
    absurd (cc none)

pub returns : goal.returns
returns c =
    let base = c.args.encoding.now in
    let piece = c.args.piece.now in
    let next = c.args.next_piece.now in
    let one = c.read-in_front in
    let two = c.read-in_next in
    let end = c.finish-in_last in
    let going = c.in-Some.ensures.goes_on in
    let resumed = c.in-Some.resumed in
    let front = take one.result one.new.output in
    let more = take two.result two.new.output in
    let first : ReadsOn base (kept_by c.new-decoder.result) (kept_by one.new.self) piece front =
    rw c.new-decoder.ensures.base at one.ensures.reads in
    let keeps : Keeps base (kept_by resumed) piece =
    subst (λ kept. Keeps base kept piece) (sym (going.kept_is ∙ c.kept-kept.ensures.value))
    (first.keeps [] c.new-decoder.ensures.nothing) in
    let second : ReadsOn base (kept_by resumed) (kept_by two.new.self) next more =
    rw going.base_is at two.ensures.reads in
    let all = second.keeps piece keeps in
    let same = two.ensures.base ∙ going.base_is in
    let last = rw same at (end.ensures.bytes (piece ++ next) (rw same all)) in
    let verdict : end.result.1 ≡ verdict_of (fault_of base (piece ++ next)) =
    rw same at (end.ensures.verdict (piece ++ next) (rw same all)) in
    let sound : (front ++ more) ++ take end.result.0 end.new.output
    ≡ sound_bytes base (piece ++ next) =
    sym (last
    ∙ ap (λ bytes. bytes ++ take end.result.0 end.new.output)
    (second.decodes piece keeps
    ∙ ap (λ bytes. bytes ++ more)
    (first.decodes [] c.new-decoder.ensures.nothing
    ∙ ap (λ bytes. bytes ++ front) c.new-decoder.ensures.no_bytes))) in
    record {
      sound = sound;
      verdict = verdict;
      means =
          no-fault-ok
          (Means base (piece ++ next) ((front ++ more) ++ take end.result.0 end.new.output))
          (fault_of base (piece ++ next)) end.result.1 verdict
          (λ none. subst (Means base (piece ++ next)) (sym sound)
          (c.sound_text.ensures.sound base c.bit_width.ensures.base (piece ++ next) none));
    }
