use Rattle.std.proofs.Common.{take, sym, subst, ◌∙◌}
use Rattle.std.proofs.KnownBytes.{Appends-kept}
use Rattle.data_encoding.specs.Fault.{fault_of}
use Rattle.encoding_stream.specs.Decoded.{EndsText}
use Rattle.encoding_stream.specs.BufferDecoder.{base_of_pieces}
use Rattle.encoding_stream.specs.Watch.{has_failed, inner_of}
use Rattle.encoding_stream.proofs.DecodedLemmas.{answers-error, answers-ok, ends-all, has-failed, not-both, on-works}
use Rattle.encoding_stream.proofs.stream_decoding.end.Goals.{then-is_err-via-then-is_err, then-is_err-via-else-is_err+then-is_err-2}
use Rattle.encoding_stream.proofs.stream_decoding.end.Goals as goal

pub returns-then-is_err-clause-last : goal.returns-then-is_err-clause-last
returns-then-is_err-clause-last g c =
    let bytes = take c.finish-written.result.0 c.finish-written.new.output in
    let base = base_of_pieces c.args.pieces.now in
    let kept = c.args.pieces.now.kept in
    let old = g.W.Write.contents (inner_of c.args.writer.now) in
    elim c.then-is_err.branch [
      | then-is_err-via-then-is_err w ↦
          let failed =
          has-failed _ _ _ c.write_all.ensures.failed c.requires.works w.if-is_err.ensures.value in
          subst (λ writer. EndsText base kept (has_failed writer) old
          (g.W.Write.contents (inner_of writer))) (sym w.writer-is)
          (record {
            bytes = bytes;
            sound = c.finish-written.ensures.bytes;
            begun = c.write_all.ensures.begun;
            all = λ works. not-both (has_failed c.write_all.new.self) failed works;
          })
      | then-is_err-via-else-is_err+then-is_err-2 w ↦
          let written =
          Appends-kept _ _ _ _
          (on-works c.write_all.result w.if-is_err.ensures.value c.write_all.ensures.bytes)
          w.flush.ensures.bytes in
          subst (λ writer. EndsText base kept (has_failed writer) old
          (g.W.Write.contents (inner_of writer))) (sym w.writer-is)
          (ends-all base kept _ _ _ bytes c.finish-written.ensures.bytes written)
    ]

pub returns-in-Ok-clause-last : goal.returns-in-Ok-clause-last
returns-in-Ok-clause-last g c =
    ends-all (base_of_pieces c.args.pieces.now) c.args.pieces.now.kept _ _ _
    (take c.finish-written.result.0 c.finish-written.new.output) c.finish-written.ensures.bytes
    (Appends-kept _ _ _ _
    (on-works c.write_all.result c.if-is_err.ensures.value c.write_all.ensures.bytes)
    c.flush.ensures.bytes)

pub returns-in-Ok-clause-verdict : goal.returns-in-Ok-clause-verdict
returns-in-Ok-clause-verdict g c = λ text is works.
    answers-ok (fault_of (base_of_pieces c.args.pieces.now) text) c.in-Ok.field-0
    (sym c.in-Ok.is ∙ c.finish-written.ensures.verdict text is)

pub returns-in-Err-clause-last : goal.returns-in-Err-clause-last
returns-in-Err-clause-last g c =
    ends-all (base_of_pieces c.args.pieces.now) c.args.pieces.now.kept _ _ _
    (take c.finish-written.result.0 c.finish-written.new.output) c.finish-written.ensures.bytes
    (Appends-kept _ _ _ _
    (on-works c.write_all.result c.if-is_err.ensures.value c.write_all.ensures.bytes)
    c.flush.ensures.bytes)

pub returns-in-Err-clause-verdict : goal.returns-in-Err-clause-verdict
returns-in-Err-clause-verdict g c = λ text is works.
    answers-error (fault_of (base_of_pieces c.args.pieces.now) text) c.in-Err.error
    (sym c.in-Err.is ∙ c.finish-written.ensures.verdict text is)
