use Rattle.std.proofs.Common.{◌≡◌, ◌++◌, ℕ, length, take, ◌∙◌, refl, sym, ap, subst, arith}
use Rattle.data_encoding.specs.KeptData.{after_blocks, held_data, piece_text}
use Rattle.encoding_stream.specs.BufferEncoder.{EncodesOn}
use Rattle.data_encoding_calls.specs.EncoderState.{data_piece_status, if_kept}
use Rattle.data_encoding_calls.specs.Calls.{front_status}
use Rattle.data_encoding_calls.specs.Status.{ok, short_buffer}
use Rattle.data_encoding_calls.proofs.EncoderStateLemmas.{due-len, if-less, if-not, refuses-data, status-by-room, status-long, written-len, written-over}
use Rattle.data_encoding_calls.proofs.encoder_state.encoder_read.Goals as goal
use Rattle.data_encoding_calls.proofs.encoder_state.encoder_read.Goals.{After-due}

pub returns-then-piece-gt-ENCODE_LIMIT : goal.returns-then-piece-gt-ENCODE_LIMIT
returns-then-piece-gt-ENCODE_LIMIT c =
    let base = c.args.encoding.now in
    let kept = c.args.kept.now in
    let piece = c.args.piece.now in
    let room : ℕ = length c.args.output.now in
    refuses-data base piece _ _ (λ is. cc)
    (status-long base kept piece room c.in-Some.ensures.short
    (omega (arith, c.if-piece-gt-ENCODE_LIMIT.true)))

-- a piece within the limit has the status of its room
status_by_room : (c : After-due)
    → front_status (piece_text c.args.encoding.now c.args.kept.now c.args.piece.now)
    (length c.args.output.now)
    ≡ if_kept c.args.encoding.now c.args.kept.now
    (data_piece_status c.args.encoding.now c.args.kept.now c.args.piece.now
    (length c.args.output.now))
status_by_room c =
    status-by-room c.args.encoding.now c.args.kept.now c.args.piece.now
    (length c.args.output.now) c.in-Some.ensures.short
    (omega (arith, c.if-piece-gt-ENCODE_LIMIT.false))

length_due : (c : After-due)
    → length (piece_text c.args.encoding.now c.args.kept.now c.args.piece.now) ≡ c.due.result
length_due c =
    due-len c.args.piece.now c.due.result c.in-Some.ensures.base c.in-Some.ensures.kept
    (c.due.ensures.value c.args.piece.now refl)

pub returns-then-output-due : goal.returns-then-output-due
returns-then-output-due c =
    let base = c.args.encoding.now in
    let kept = c.args.kept.now in
    let piece = c.args.piece.now in
    let room : ℕ = length c.args.output.now in
    let here = (goal.at.returns-then-output-due c).After-due in
    let by_room = status_by_room here in
    let due = length_due here in
    refuses-data base piece _ _ (λ is. cc)
    (if-less room (length (piece_text base kept piece)) short_buffer ok
    (omega (arith, due, c.if-output-due.true))
    ∙ by_room)

pub returns : goal.returns
returns c =
    let base = c.args.encoding.now in
    let kept = c.args.kept.now in
    let piece = c.args.piece.now in
    let room : ℕ = length c.args.output.now in
    let here = (goal.at.returns c).After-due in
    let by_room = status_by_room here in
    let due = length_due here in
    let old = c.args.output.now in
    let new = c.read.new.output in
    let text = piece_text base kept piece in
    let at_base = rw c.in-Some.ensures.base at c.read.ensures.text in
    let front : take c.read.result new ≡ text = rw c.in-Some.ensures.kept at at_base in
    let after = c.read.ensures.after in
    let within = c.read.ensures.within in
    let held_base = rw c.in-Some.ensures.base at c.read.ensures.held in
    let held_is : held_data c.kept.result ≡ after_blocks base (held_data kept ++ piece) =
    ap held_data c.kept.ensures.value ∙ rw c.in-Some.ensures.kept at held_base in
    let encodes_base = rw c.in-Some.ensures.base at c.read.ensures.encodes in
    let encodes = rw c.in-Some.ensures.kept at encodes_base in
    record {
      status =
          if-not room (length text) short_buffer ok (omega (arith, due, c.if-output-due.false))
          ∙ by_room;
      text = λ _. written-over c.read.result new old text front within after;
      written = λ _. written-len c.read.result new old text front within after;
      held = λ _. held_is;
      encodes = λ _.
          subst (EncodesOn base kept c.kept.result piece) front
          (subst (λ k. EncodesOn base kept k piece (take c.read.result new))
          (sym c.kept.ensures.value) encodes);
      refused = λ refused. absurd (refused refl);
    }
