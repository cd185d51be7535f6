use Rattle.std.proofs.Common.{[], ◌++◌, ◌∙◌, ap, append-nil, arith, inl, inr, length-take-le, refl, sym, take, Result, Ok, Err, OnErr}
use Rattle.std.proofs.lemmas.Bool.{false≢true}
use Rattle.encoding_stream.specs.BufferDecoder.{base_of_pieces}
use Rattle.encoding_stream.proofs.DecoderLemmas.{adds-none}
use Rattle.encoding_stream.proofs.append_piece.append_chunk.Goals as goal

pub returns-in_err-reserve-clause-no_group : goal.returns-in_err-reserve-clause-no_group
returns-in_err-reserve-clause-no_group g c = λ text is none.
    let read = c.read-written in
    let bytes = take read.result read.new.output in
    let few =
    adds-none (base_of_pieces c.args.pieces.now) text c.args.chunk.now bytes
    (read.ensures.reads.decodes text is) none in
    absurd (omega (
      arith,
      few,
      length-take-le read.result read.new.output read.ensures.within,
      c.if-written-eq0.false,
    ))

pub returns-in_err-reserve-clause-room : goal.returns-in_err-reserve-clause-room
returns-in_err-reserve-clause-room g c = λ room.
    let read = c.read-written in
    let few = read.ensures.reads.few c.args.rest in
    let len = length-take-le read.result read.new.output read.ensures.within in
    absurd (false≢true (c.in_err-reserve.ensures.succeeds
    (omega (arith, room, few, len, rw read.ensures.base at c.most-more.ensures.value))))

-- what holds holds after an error
on_err : {A E P : Type 0} (result : Result A E) → P → OnErr result P
on_err (Ok value) holds = tt
on_err (Err error) holds = holds

pub returns-in_err-reserve-clause-unchanged : goal.returns-in_err-reserve-clause-unchanged
returns-in_err-reserve-clause-unchanged g c =
    on_err _ c.in_err-reserve.ensures.items

pub returns-in_err-reserve-clause-capacity : goal.returns-in_err-reserve-clause-capacity
returns-in_err-reserve-clause-capacity g c =
    on_err _ c.in_err-reserve.ensures.err

pub returns-then-written-eq0-clause-rest : goal.returns-then-written-eq0-clause-rest
returns-then-written-eq0-clause-rest g c = λ room.
    omega (arith, room, c.read-written.ensures.reads.few c.args.rest)

pub returns-then-written-eq0-clause-grows : goal.returns-then-written-eq0-clause-grows
returns-then-written-eq0-clause-grows g c = inl (record { items = refl; capacity = refl })

pub returns-clause-appends : goal.returns-clause-appends
returns-clause-appends g c = record {
  bytes = take c.read-written.result c.read-written.new.output;
  reads = c.read-written.ensures.reads;
  appended =
      (rw c.unwrap.ensures at c.extend_from_slice.ensures.items)
      ∙ ap (λ l. l ++ take c.read-written.result c.read-written.new.output)
      c.in_ok-reserve.ensures.items;
}

pub returns-clause-rest : goal.returns-clause-rest
returns-clause-rest g c = λ room.
    let read = c.read-written in
    omega (
      arith,
      room,
      read.ensures.reads.few c.args.rest,
      length-take-le read.result read.new.output read.ensures.within,
      rw c.unwrap.ensures at c.extend_from_slice.ensures.len,
      c.extend_from_slice.ensures.capacity,
      c.in_ok-reserve.ensures.len,
      c.in_ok-reserve.ensures.capacity,
    )

pub returns-clause-grows : goal.returns-clause-grows
returns-clause-grows g c =
    let read = c.read-written in
    inr (omega (
      arith,
      length-take-le read.result read.new.output read.ensures.within,
      rw c.unwrap.ensures at c.extend_from_slice.ensures.len,
      c.extend_from_slice.ensures.capacity,
      c.in_ok-reserve.ensures.len,
      c.in_ok-reserve.ensures.ok,
      rw read.ensures.base at c.most-more.ensures.value,
    ))

pub returns-then-written-eq0-clause-appends : goal.returns-then-written-eq0-clause-appends
returns-then-written-eq0-clause-appends g c = record {
  bytes = [];
  reads = rw c.if-written-eq0.true at c.read-written.ensures.reads;
  appended = sym (append-nil c.args.output.now.items);
}
