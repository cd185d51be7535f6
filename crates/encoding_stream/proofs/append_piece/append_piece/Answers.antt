use Rattle.std.proofs.Common.{◌≤◌, ◌++◌, length, take, vec_capacity, vec_len, refl, subst, ◌∙◌, arith, inl, inr, ⊎_elim, Result, Ok, Err}
use Rattle.std.proofs.lemmas.Bool.{false≢true}
use Rattle.std.proofs.lemmas.List.{take_all}
use Rattle.std.specs.Prelude.{OnErr}
use Rattle.encoding_stream.specs.BufferDecoder.{base_of_pieces}
use Rattle.encoding_stream.specs.Reading.{AppendsPiece}
use Rattle.encoding_stream.proofs.DecoderLemmas.{appends-next, appends-nothing, part-adds-none, room-both}
use Rattle.encoding_stream.proofs.ReadByteLemmas.{is-specified, keeps-bytes}
use Rattle.encoding_stream.proofs.append_piece.append_piece.Goals as goal

pub loop-read-init : goal.loop-read-init
loop-read-init g c =
    let base = base_of_pieces c.args.pieces.now in
    record {
      base = refl;
      appends = appends-nothing base c.args.pieces.now.kept c.args.output.now.items;
      within = omega arith;
      grown = inl (record { items = refl; capacity = refl });
    }

pub returns-in_err-append_chunk-clause-no_group : goal.returns-in_err-append_chunk-clause-no_group
returns-in_err-append_chunk-clause-no_group g c = λ text is none.
    let now = c.loop-read.invariant in
    let piece = c.args.piece.now in
    let law = rw now.base at c.in_err-append_chunk.ensures.no_group in
    absurd (false≢true
    (law (text ++ take c.loop-read.read piece) (now.appends.reads.keeps text is)
    (part-adds-none (base_of_pieces c.args.pieces.now) (is-specified c.args.pieces.now)
    (keeps-bytes c.args.pieces.now.laws.front) text piece c.loop-read.read c.min-end.result
    (omega (arith, c.min-end.ensures, now.within)) none)))

-- what holds, holds also if an error is returned
where_err : {T E P : Type 0} (result : Result T E) → P → OnErr result P
where_err (Ok value) holds = tt
where_err (Err error) holds = holds

pub returns-in_err-append_chunk-clause-unchanged :
    goal.returns-in_err-append_chunk-clause-unchanged
returns-in_err-append_chunk-clause-unchanged g c =
    let now = c.loop-read.invariant in
    where_err c.from_residual.result
    (⊎_elim (λ same. c.in_err-append_chunk.ensures.unchanged ∙ same.items)
    (λ room. absurd (false≢true
    (c.in_err-append_chunk.ensures.room
    (room-both c.loop-read.pieces.kept c.args.piece.now c.loop-read.read c.min-end.result
    (vec_len c.loop-read.output) (vec_capacity c.loop-read.output) now.base
    (omega (arith, c.min-end.ensures, now.within)) (omega (arith, c.min-end.ensures))
    room))))
    now.grown)

pub returns-in_err-append_chunk-clause-capacity :
    goal.returns-in_err-append_chunk-clause-capacity
returns-in_err-append_chunk-clause-capacity g c =
    let now = c.loop-read.invariant in
    where_err c.from_residual.result
    (⊎_elim (λ same. c.in_err-append_chunk.ensures.capacity ∙ same.capacity)
    (λ room. absurd (false≢true
    (c.in_err-append_chunk.ensures.room
    (room-both c.loop-read.pieces.kept c.args.piece.now c.loop-read.read c.min-end.result
    (vec_len c.loop-read.output) (vec_capacity c.loop-read.output) now.base
    (omega (arith, c.min-end.ensures, now.within)) (omega (arith, c.min-end.ensures))
    room))))
    now.grown)

pub loop-read-preserved : goal.loop-read-preserved
loop-read-preserved g c =
    let base = base_of_pieces c.args.pieces.now in
    let piece = c.args.piece.now in
    let read = c.loop-read.read in
    let end = c.min-end.result in
    let now = c.loop-read.invariant in
    let within : read ≤ end = omega (arith, c.min-end.ensures, now.within) in
    let inside : end ≤ length piece = omega (arith, c.min-end.ensures) in
    let here = room-both c.loop-read.pieces.kept piece read end (vec_len c.loop-read.output)
    (vec_capacity c.loop-read.output) now.base within inside in
    let grows = rw now.base at c.in_ok-append_chunk.ensures.grows in
    record {
      base = c.append_chunk.ensures.base ∙ now.base;
      appends =
          appends-next base c.args.pieces.now.kept c.loop-read.pieces.kept
          c.append_chunk.new.pieces.kept piece read end c.args.output.now.items
          c.loop-read.output.items c.append_chunk.new.output.items
          within now.appends
          (rw now.base at c.in_ok-append_chunk.ensures.appends);
      within = inside;
      grown =
          ⊎_elim
          (λ same. ⊎_elim
          (λ none. inl (record {
            items = none.items ∙ same.items;
            capacity = none.capacity ∙ same.capacity;
          }))
          inr grows)
          (λ room. inr (rw now.base at (c.in_ok-append_chunk.ensures.rest (here room))))
          now.grown;
    }

pub returns-clause-appends : goal.returns-clause-appends
returns-clause-appends g c =
    subst (λ p. AppendsPiece (base_of_pieces c.args.pieces.now) c.args.pieces.now.kept
    c.loop-read.pieces.kept p c.args.output.now.items c.loop-read.output.items)
    (take_all c.loop-read.read c.args.piece.now c.loop-read-test.false)
    c.loop-read.invariant.appends
