use Rattle.std.proofs.Common.{◌≡◌, List, ◌++◌, ℕ, ◌≤◌, length, take, drop, refl, sym, ap, ◌∙◌, subst, arith, length-take-le}
use Rattle.std.proofs.lemmas.List.{length-append, length-drop, take-append-le}
use Rattle.std.proofs.lemmas.Slice.{drop-append-drop}
use Rattle.data_encoding.specs.Pieces.{whole_bytes}
use Rattle.encoding_stream.specs.BufferDecoder.{kept_by, most_completed, Keeps}
use Rattle.encoding_stream.specs.Reading.{ReadsOn}
use Rattle.data_encoding_calls.specs.DecoderState.{text_piece_status, WasGiven}
use Rattle.data_encoding_calls.specs.Status.{ok}
use Rattle.data_encoding_calls.proofs.DecoderStateLemmas.{consumed-kept, none-consumed, piece-fits, piece-long, piece-short, refuses}
use Rattle.data_encoding_calls.proofs.decoder_state.decoder_read.Goals as goal

pub returns-in_default : goal.returns-in_default
returns-in_default c =
    let none =
    none-consumed c.args.encoding.now c.args.plain.now c.decoder_of.result c.in_default.is
    c.decoder_of.ensures.stands in
    refuses c.args.encoding.now c.args.piece.now _ _ (λ is. cc)
    (λ text consumed. absurd (none text consumed))

pub returns-then-piece-len : goal.returns-then-piece-len
returns-then-piece-len c =
    let base = c.args.encoding.now in
    let piece = c.args.piece.now in
    let room : ℕ = length c.args.output.now in
    let kept = kept_by c.in-Some.decoder in
    let long = piece-long base kept (length piece) room
    (omega (arith, c.if-piece-len.true, c.len.ensures.value, c.len.ensures.limit)) in
    refuses base piece _ _ (λ is. cc)
    (λ text consumed. long
    ∙ ap (λ k. text_piece_status base k (length piece) room)
    (sym (consumed-kept base c.args.plain.now kept text c.in-Some.ensures.kept consumed).0))

pub returns-then-output-most : goal.returns-then-output-most
returns-then-output-most c =
    let base = c.args.encoding.now in
    let piece = c.args.piece.now in
    let room : ℕ = length c.args.output.now in
    let kept = kept_by c.in-Some.decoder in
    let most_is : c.most-most.result ≡ most_completed base kept (length piece) =
    rw c.in-Some.ensures.base at c.most-most.ensures.value in
    let short = piece-short base kept (length piece) room
    (omega (arith, c.if-piece-len.false, c.len.ensures.value, c.len.ensures.limit))
    (omega (arith, c.if-output-most.true, most_is)) in
    refuses base piece _ _ (λ is. cc)
    (λ text consumed. short
    ∙ ap (λ k. text_piece_status base k (length piece) room)
    (sym (consumed-kept base c.args.plain.now kept text c.in-Some.ensures.kept consumed).0))

pub returns : goal.returns
returns c =
    let base = c.args.encoding.now in
    let plain = c.args.plain.now in
    let piece = c.args.piece.now in
    let room : ℕ = length c.args.output.now in
    let decoder = c.in-Some.decoder in
    let kept = kept_by decoder in
    let is = c.in-Some.ensures.base in
    let is_kept = c.in-Some.ensures.kept in
    let most : ℕ = c.most-most.result in
    let most_is : most ≡ most_completed base kept (length piece) =
    rw is at c.most-most.ensures.value in
    let inside : most ≤ room = omega (arith, c.if-output-most.false) in
    let front = c.read.new.output in
    let after = drop most c.args.output.now in
    let size : length front ≡ most =
    c.read.ensures.len ∙ length-take-le most c.args.output.now inside in
    let reads : ReadsOn base kept (kept_by c.read.new.self) piece
    (take c.read.result front) = rw is at c.read.ensures.reads in
    let fits : ok ≡ text_piece_status base kept (length piece) room =
    piece-fits base kept (length piece) room
    (omega (arith, c.if-piece-len.false, c.len.ensures.value, c.len.ensures.limit))
    (omega (arith, inside, most_is)) in
    let now : (text : List ℕ) → WasGiven base plain text
    → Keeps base c.kept.result (text ++ piece) =
    λ text consumed. subst (λ k. Keeps base k (text ++ piece)) (sym c.kept.ensures.value)
    (reads.keeps text (consumed-kept base plain kept text is_kept consumed).1) in
    record {
      status = λ text consumed.
          fits ∙ ap (λ k. text_piece_status base k (length piece) room)
          (sym (consumed-kept base plain kept text is_kept consumed).0);
      stands = λ _ text consumed. record {
        kept = c.kept.result;
        told = c.plain_of.ensures;
        keeps = now text consumed;
        limit = omega (arith, c.kept.ensures.limit, (now text consumed).counted);
        clear = c.kept.ensures.clear;
      };
      decodes = λ _ text consumed.
          reads.decodes text (consumed-kept base plain kept text is_kept consumed).1
          ∙ ap (λ more. whole_bytes base text ++ more)
          (sym (take-append-le c.read.result front after c.read.ensures.within));
      within = λ _. omega (arith, c.read.ensures.within, length-append front after);
      after = λ _ text consumed.
          let due : most_completed base consumed.kept (length piece) ≡ most =
          ap (λ k. most_completed base k (length piece))
          (consumed-kept base plain kept text is_kept consumed).0
          ∙ sym most_is in
          ap (λ n. drop n (front ++ after)) due
          ∙ drop-append-drop most c.args.output.now front most (omega arith) size
          ∙ ap (λ n. drop n c.args.output.now) (sym due);
      len = omega (
        arith,
        length-append front after,
        length-drop most c.args.output.now,
        size,
        inside,
      );
      refused = λ not_ok. absurd (not_ok refl);
    }
