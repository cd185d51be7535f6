use Rattle.std.proofs.Common.{◌≡◌, ◌+◌, ◌/◌, ◌∙◌, false, None, Some, take, drop, length, sym, subst, arith, length-append, length-take, length-take-le, inl, inr, ⊎_elim}
use Rattle.std.proofs.lemmas.Bool.{false≢true}
use Rattle.std.proofs.lemmas.List.{take-append-le, take-take}
use Rattle.data_encoding.specs.Base.{group_symbols}
use Rattle.data_encoding.specs.Grammar.{Means}
use Rattle.data_encoding.specs.Laws.{shifted}
use Rattle.encoding_stream.specs.BufferDecoder.{base_of_pieces, FillsGroups}
use Rattle.encoding_stream.specs.Reading.{ReadsOn}
use Rattle.encoding_stream.proofs.ReadByteLemmas.{is-specified, no-fault, no-fault-inside}
use Rattle.encoding_stream.proofs.ReadPieceLemmas.{reads-nothing}
use Rattle.encoding_stream.proofs.ReadRunLemmas.{IsFresh, by_padding, due-fits, due-whole, reads-run, run-sound}
use Rattle.encoding_stream.proofs.buffer_decoder.BufferDecoder.read_run.Goals as goal

pub returns-in-Err-clause-reads : goal.returns-in-Err-clause-reads
returns-in-Err-clause-reads c =
    let s = c.args.self.now in
    let base = base_of_pieces s in
    let old = s.kept in
    let partial = c.in-Err.partial in
    let new = c.decode_run.new.output in
    let text = take c.run_len-len.result.0 c.args.piece.now in
    let bytes = take partial.written new in
    let text-is : length text ≡ c.run_len-len.result.0 =
    length-take-le c.run_len-len.result.0 c.args.piece.now
    c.run_len-len.ensures.few in
    let within = c.in-Err.ensures.within in
    let few : FillsGroups base 0 (length text) 0 (length bytes) = record {
      groups = length c.args.piece.now / group_symbols base.width;
      symbols = omega (
        arith,
        text-is,
        c.run_len-len.ensures.len (⊎_elim (λ (w : _ × _). inl w.0) inr
            c.in-Err.ensures.group.whole),
      );
      bytes = omega (
        arith,
        length-take-le partial.written new within,
        within,
        c.decode_run.ensures.len,
        length-take c.run_len-len.result.1 c.args.output.now,
        c.run_len-len.ensures.bytes,
      );
    } in
    let fresh : IsFresh old = record {
      none = c.if-self-ne0.false;
      sound = sym c.is_some.ensures ∙ c.if-is_some.false;
      goes_on = c.if-self.false;
    } in
    rw (take-append-le partial.written new
    (drop c.run_len-len.result.1 c.args.output.now) within)
    (subst (λ e. ReadsOn base old (record old {
      len = old.len + c.run_len-len.result.0;
      fault = shifted old.len (Some partial.error);
      ended = e;
    }) text bytes) (sym fresh.goes_on)
    (subst (λ n. ReadsOn base old (record old {
      len = old.len + n;
      fault = shifted old.len (Some partial.error);
      ended = false;
    }) text bytes) text-is
    (reads-run base s.width old fresh old.positions old.bytes text bytes (Some partial.error) false
    c.in-Err.ensures.fault
    few)))

pub returns-clause-reads : goal.returns-clause-reads
returns-clause-reads c =
    let s = c.args.self.now in
    let base = base_of_pieces s in
    let old = s.kept in
    let run = c.in-Ok in
    let new = c.decode_run.new.output in
    let read = run.run'.0 in
    let written = run.run'.1 in
    let front = take read c.args.piece.now in
    let bytes = take written new in
    let within =
    length-take-le c.run_len-len.result.0 c.args.piece.now
    c.run_len-len.ensures.few in
    let front-is : length front ≡ read =
    length-take-le read c.args.piece.now
    (omega (arith, run.ensures.read, within, c.run_len-len.ensures.few)) in
    let bytes-is : length bytes ≡ written = length-take-le written new run.ensures.written in
    let means : Means base front bytes =
    rw (take-take read c.run_len-len.result.0 c.args.piece.now
    (omega (arith, run.ensures.read, within))) at run.ensures.means in
    let few : FillsGroups base 0 (length front) 0 (length bytes) =
    rw (front-is, bytes-is)
    (c.are_whole.ensures.few c.if-not-are_whole.false read run.ensures.most) in
    let whole =
    c.are_whole.ensures.whole c.if-not-are_whole.false front bytes bytes-is means in
    let fresh : IsFresh old = record {
      none = c.if-self-ne0.false;
      sound = sym c.is_some.ensures ∙ c.if-is_some.false;
      goes_on = c.if-self.false;
    } in
    let ends = c.has_final-self.ensures.ends front bytes bytes-is means in
    rw (take-append-le written new (drop c.run_len-len.result.1 c.args.output.now)
    run.ensures.written)
    (subst (λ f. ReadsOn base old
    (record old { len = old.len + read; fault = f; ended = c.has_final-self.result }) front bytes)
    (sym (no-fault old.fault fresh.sound))
    (subst (λ n. ReadsOn base old
    (record old { len = old.len + n; fault = None; ended = c.has_final-self.result }) front bytes)
    front-is
    (reads-run base s.width old fresh old.positions old.bytes front bytes None
    c.has_final-self.result
    (run-sound base (is-specified s) s.laws.sound front bytes c.has_final-self.result
    means
    whole ends)
    few)))

pub returns-then-len-eq0-clause-all : goal.returns-then-len-eq0-clause-all
returns-then-len-eq0-clause-all c = λ _ _ _ none _ _.
    sym c.if-len-eq0.true ∙ c.run_len-len.ensures.len (inl none)

pub returns-then-not-are_whole-clause-all : goal.returns-then-not-are_whole-clause-all
returns-then-not-are_whole-clause-all c = λ _ _ _ none bytes means.
    let s = c.args.self.now in
    let base = base_of_pieces s in
    let run = c.run_len-len in
    let all = run.ensures.len (inl none) in
    let room =
    length-take-le run.result.1 c.args.output.now
    (due-fits s _ c.if-self-ne0.false (sym c.is_some.ensures ∙ c.if-is_some.false)
    run.ensures.bytes c.requires.room) in
    absurd (false≢true (sym c.if-not-are_whole.true
    ∙ by_padding base c.are_whole.ensures.by_padding
    (λ unpadded. c.are_whole.ensures.by_bytes
    (rw (
      c.in-Ok.ensures.full bytes (rw (sym all) at means) unpadded none,
      c.decode_run.ensures.len,
      room,
    )
    (due-whole base (is-specified s) s.laws.due
    (length c.args.piece.now / group_symbols base.width) (rw all at run.ensures.due))))))

pub returns-clause-all : goal.returns-clause-all
returns-clause-all c = λ _ _ _ none bytes means.
    let all = c.run_len-len.ensures.len (inl none) in
    c.in-Ok.ensures.all bytes (rw (sym all) at means)
    ∙ length-take-le c.run_len-len.result.0 c.args.piece.now
    c.run_len-len.ensures.few
    ∙ all

pub invariant_of-self-2 : goal.invariant_of-self-2
invariant_of-self-2 c =
    let s = c.args.self.now in
    record {
      laws = s.laws;
      specified = s.specified;
      width = s.width;
      short = s.short;
      held = omega (arith, s.held);
      clear = s.clear;
      limit = omega (
        arith,
        c.requires.limit,
        c.in-Ok.ensures.read,
        length-take-le c.run_len-len.result.0 c.args.piece.now
            c.run_len-len.ensures.few,
        c.run_len-len.ensures.few,
      );
      inside = λ k d at. omega (arith, s.inside k d at);
      fault_inside = no-fault-inside s.kept _ (sym c.is_some.ensures ∙ c.if-is_some.false);
    }

pub returns-then-self-ne0-clause-reads : goal.returns-then-self-ne0-clause-reads
returns-then-self-ne0-clause-reads c =
    reads-nothing (base_of_pieces c.args.self.now) c.args.self.now.kept

pub returns-then-len-eq0-clause-reads : goal.returns-then-len-eq0-clause-reads
returns-then-len-eq0-clause-reads c =
    reads-nothing (base_of_pieces c.args.self.now) c.args.self.now.kept

pub returns-then-not-are_whole-clause-reads : goal.returns-then-not-are_whole-clause-reads
returns-then-not-are_whole-clause-reads c =
    reads-nothing (base_of_pieces c.args.self.now) c.args.self.now.kept

pub overflow_add-self : goal.overflow_add-self
overflow_add-self c =
    let read =
    length-take-le c.run_len-len.result.0 c.args.piece.now
    c.run_len-len.ensures.few in
    record {
      fits = omega (
        arith,
        c.requires.limit,
        c.in-Err.ensures.position,
        read,
        c.run_len-len.ensures.few,
      );
    }

pub returns-in-Err-clause-within : goal.returns-in-Err-clause-within
returns-in-Err-clause-within c =
    omega (
      arith,
      c.in-Err.ensures.within,
      length-append c.decode_run.new.output
          (drop c.run_len-len.result.1 c.args.output.now),
    )

pub overflow_add-self-2 : goal.overflow_add-self-2
overflow_add-self-2 c =
    let read =
    length-take-le c.run_len-len.result.0 c.args.piece.now
    c.run_len-len.ensures.few in
    record {
      fits = omega (
        arith,
        c.requires.limit,
        c.in-Ok.ensures.read,
        read,
        c.run_len-len.ensures.few,
      );
    }

pub returns-clause-read : goal.returns-clause-read
returns-clause-read c =
    omega (
      arith,
      c.in-Ok.ensures.read,
      length-take-le c.run_len-len.result.0 c.args.piece.now
          c.run_len-len.ensures.few,
      c.run_len-len.ensures.few,
    )

pub returns-clause-within : goal.returns-clause-within
returns-clause-within c =
    omega (
      arith,
      c.in-Ok.ensures.written,
      length-append c.decode_run.new.output
          (drop c.run_len-len.result.1 c.args.output.now),
    )

pub slice_bounds-decode_run-end-2 : goal.slice_bounds-decode_run-end-2
slice_bounds-decode_run-end-2 c =
    due-fits c.args.self.now _ c.if-self-ne0.false (sym c.is_some.ensures ∙ c.if-is_some.false)
    c.run_len-len.ensures.bytes c.requires.room

pub slice_bounds-decode_run-end-3 : goal.slice_bounds-decode_run-end-3
slice_bounds-decode_run-end-3 c =
    sym (length-take-le c.run_len-len.result.1 c.args.output.now
    (due-fits c.args.self.now _ c.if-self-ne0.false
    (sym c.is_some.ensures ∙ c.if-is_some.false) c.run_len-len.ensures.bytes
    c.requires.room))

pub decode_run-requires-clause-exact : goal.decode_run-requires-clause-exact
decode_run-requires-clause-exact c =
    rw (
      length-take-le c.run_len-len.result.0 c.args.piece.now
          c.run_len-len.ensures.few,
      length-take-le c.run_len-len.result.1 c.args.output.now
          (due-fits c.args.self.now (length c.args.piece.now) c.if-self-ne0.false
          (sym c.is_some.ensures ∙ c.if-is_some.false) c.run_len-len.ensures.bytes
          c.requires.room),
    )
    c.run_len-len.ensures.due

pub invariant_of-self : goal.invariant_of-self
invariant_of-self c =
    let s = c.args.self.now in
    let read =
    length-take-le c.run_len-len.result.0 c.args.piece.now
    c.run_len-len.ensures.few in
    record {
      laws = s.laws;
      specified = s.specified;
      width = s.width;
      short = s.short;
      held = omega (arith, s.held);
      clear = λ _. c.if-self-ne0.false;
      limit = omega (arith, c.requires.limit, c.run_len-len.ensures.few);
      inside = λ k d at. omega (arith, s.inside k d at);
      fault_inside = omega (arith, c.in-Err.ensures.position, read);
    }
