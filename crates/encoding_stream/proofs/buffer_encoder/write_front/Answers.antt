use Rattle.std.proofs.Common.{drop, length, refl, sym, ap, ◌∙◌, arith, length-take-le}
use Rattle.std.proofs.lemmas.List.{drop_at, take_at}
use Rattle.encoding_stream.proofs.buffer_encoder.write_front.Goals as goal

pub slice_bounds-encode_mut-end-2 : goal.slice_bounds-encode_mut-end-2
slice_bounds-encode_mut-end-2 c =
    let len = rw c.by_ref-encoding.ensures
    at (c.encode_len-len.ensures.length c.args.input.now refl) in
    sym (length-take-le c.encode_len-len.result c.args.output.now
    (omega (arith, len, c.requires.room)))

pub returns-clause-after : goal.returns-clause-after
returns-clause-after c =
    let len = c.encode_len-len.result in
    drop_at c.encode_mut.new.output (drop len c.args.output.now) len
    (ap length c.encode_mut.ensures.text ∙ c.encode_len-len.ensures.length c.args.input.now refl)

pub slice_bounds-encode_mut-end : goal.slice_bounds-encode_mut-end
slice_bounds-encode_mut-end c =
    omega (
      arith,
      rw c.by_ref-encoding.ensures at (c.encode_len-len.ensures.length c.args.input.now refl),
      c.requires.room,
    )

pub encode_mut-requires-clause-exact : goal.encode_mut-requires-clause-exact
encode_mut-requires-clause-exact c =
    let is = c.encode_len-len.ensures.length c.args.input.now refl in
    length-take-le c.encode_len-len.result c.args.output.now
    (omega (arith, rw c.by_ref-encoding.ensures at is, c.requires.room)) ∙ sym is

pub returns-clause-text : goal.returns-clause-text
returns-clause-text c =
    take_at c.encode_mut.new.output (drop c.encode_len-len.result c.args.output.now)
    c.encode_len-len.result
    (ap length c.encode_mut.ensures.text ∙ c.encode_len-len.ensures.length c.args.input.now refl)
    ∙ (rw c.by_ref-encoding.ensures at c.encode_mut.ensures.text)

pub returns-clause-value : goal.returns-clause-value
returns-clause-value c =
    sym (rw c.by_ref-encoding.ensures at (c.encode_len-len.ensures.length c.args.input.now refl))
