use Rattle.std.proofs.Common.{◌≡◌, [], ◌++◌, length, take, length-take-le, sym, ◌∙◌, subst, arith}
use Rattle.data_encoding.specs.KeptData.{held_data}
use Rattle.encoding_stream.specs.BufferEncoder.{data_kept, HasWritten}
use Rattle.conformance.proofs.callers.kept.encode_kept.Goals as goal

pub finish-in_last-requires : goal.finish-in_last-requires
finish-in_last-requires c =
    let kept = c.kept-kept-2.result in
    let size : length (held_data kept) ≡ kept.count =
    length-take-le kept.count kept.bytes (omega (arith, c.in_ok-ended.ensures.few)) in
    let needed = c.encode_len.ensures.length (held_data kept) size in
    record {
      room =
          rw (c.in_ok-ended.ensures.base, c.in_ok-ended.ensures.kept)
          (omega (arith, needed, c.if-last-encode_len.false));
    }

pub returns : goal.returns
returns c =
    let base = c.args.encoding.now in
    let piece = c.args.piece.now in
    let next = c.args.next_piece.now in
    let x = take c.read-in_front.result c.read-in_front.new.output in
    let y = take c.read-in_next.result c.read-in_next.new.output in
    let first = rw c.new-encoder.ensures.base at c.read-in_front.ensures.encodes in
    let one : HasWritten base (data_kept c.in_ok-resumed.resumed) piece x =
    subst (λ k. HasWritten base k piece x)
    (sym (c.in_ok-resumed.ensures.kept ∙ c.kept-kept.ensures.value))
    (first [] [] c.new-encoder.ensures.nothing) in
    let second = rw c.in_ok-resumed.ensures.base at c.read-in_next.ensures.encodes in
    let both : HasWritten base (data_kept c.in_ok-ended.ended) (piece ++ next) (x ++ y) =
    subst (λ k. HasWritten base k (piece ++ next) (x ++ y))
    (sym (c.in_ok-ended.ensures.kept ∙ c.kept-kept-2.ensures.value))
    (second piece x one) in
    let whole = rw c.in_ok-ended.ensures.base at c.finish-in_last.ensures.whole in
    whole (piece ++ next) (x ++ y) both
