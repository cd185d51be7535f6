use Rattle.std.proofs.Common.{◌≡◌, List, ℕ, [], ◌++◌, flat_map, get_or, take, sym, ap, ◌∙◌, append-nil, arith, take_all}
use Rattle.std.proofs.lemmas.List.Folds.{length-flat_map-take}
use denote.Bor.{Bor}
use Rattle.data_encoding.specs.Fault.{fault_of, sound_bytes}
use Rattle.data_encoding.specs.Grammar.{Means}
use Rattle.data_encoding.specs.Pieces.{whole_bytes}
use Rattle.conformance.proofs.StreamedLemmas.{handed-on, joined-more, no-fault-ok}
use Rattle.conformance.proofs.callers.streamed.decode_pieces.Goals as goal

pub loop-piece-init : goal.loop-piece-init
loop-piece-init c = record {
  base = c.new-decoder.ensures.base;
  consumed = c.new-decoder.ensures.nothing;
  sound =
      sym (append-nil c.args.output.now.items)
      ∙ ap (λ l. c.args.output.now.items ++ l) (sym c.new-decoder.ensures.no_bytes);
  drained = c.new-buffer.ensures.items;
}

abbrev bytes_of : Bor (List ℕ) → List ℕ
bytes_of piece = piece.now

abbrev none : Bor (List ℕ)
none = record { ref_ptr = (0, 0); now = [] }

pub push-requires : goal.push-requires
push-requires c =
    let pieces = c.args.pieces.now in
    let index = c.loop-piece.piece-index in
    record {
      limit =
          omega (
            arith,
            c.loop-piece.invariant.consumed.counted,
            length-flat_map-take bytes_of pieces index none c.loop-piece-test.true,
            c.requires.limit,
          );
    }

pub loop-piece-preserved : goal.loop-piece-preserved
loop-piece-preserved c =
    let base = c.args.encoding.now in
    let pieces = c.args.pieces.now in
    let index = c.loop-piece.piece-index in
    let now = c.loop-piece.invariant in
    let text = flat_map bytes_of (take index pieces) in
    let piece = (get_or pieces index none).now in
    let more = joined-more bytes_of pieces index none c.loop-piece-test.true in
    let appends =
    rw (now.base, now.drained) at (c.in_ok-push.ensures.appends.bytes text now.consumed) in
    record {
      base = c.push.ensures.base ∙ now.base;
      consumed = rw more (c.in_ok-push.ensures.stands text now.consumed);
      sound =
          rw more
          (c.in_ok-extend_from_slice.ensures.items
          ∙ ap (λ l. c.loop-piece.output.items ++ l) c.deref.ensures.value
          ∙ handed-on c.args.output.now.items (whole_bytes base text)
          (whole_bytes base (text ++ piece)) c.push.new.output.items c.loop-piece.output.items
          appends now.sound);
      drained = c.clear.ensures.items;
    }

pub returns-in-Ok-clause-sound : goal.returns-in-Ok-clause-sound
returns-in-Ok-clause-sound c =
    let base = c.args.encoding.now in
    let pieces = c.args.pieces.now in
    let now = c.loop-piece.invariant in
    let text = flat_map bytes_of pieces in
    let all : take c.loop-piece.piece-index pieces ≡ pieces =
    take_all c.loop-piece.piece-index pieces (omega (arith, c.loop-piece-test.false)) in
    let consumed = rw all at now.consumed in
    let sound = rw all at now.sound in
    let appends = rw (now.base, now.drained) at (c.in-Ok.ensures.appends.bytes text consumed) in
    c.in_ok-extend_from_slice-in-Ok.ensures.items
    ∙ ap (λ l. c.loop-piece.output.items ++ l) c.deref-in-Ok.ensures.value
    ∙ handed-on c.args.output.now.items (whole_bytes base text) (sound_bytes base text)
    c.finish.new.output.items c.loop-piece.output.items appends sound

pub returns-in-Ok-clause-verdict : goal.returns-in-Ok-clause-verdict
returns-in-Ok-clause-verdict c =
    let pieces = c.args.pieces.now in
    let now = c.loop-piece.invariant in
    let all : take c.loop-piece.piece-index pieces ≡ pieces =
    take_all c.loop-piece.piece-index pieces (omega (arith, c.loop-piece-test.false)) in
    let consumed = rw all at now.consumed in
    rw now.base at (c.in-Ok.ensures.verdict (flat_map bytes_of pieces) consumed)

pub returns-in-Ok-clause-means : goal.returns-in-Ok-clause-means
returns-in-Ok-clause-means c =
    let base = c.args.encoding.now in
    let text = flat_map bytes_of c.args.pieces.now in
    no-fault-ok (Means base text (sound_bytes base text)) (fault_of base text)
    c.in-Ok.finished.verdict (returns-in-Ok-clause-verdict c)
    (c.sound_text.ensures.sound base c.bit_width.ensures.base text)
