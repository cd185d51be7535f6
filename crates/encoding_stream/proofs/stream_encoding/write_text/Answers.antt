use Rattle.std.proofs.Common.{◌∙◌, refl, sym, arith, length-take-le}
use Rattle.encoding_stream.proofs.stream_encoding.write_text.Goals as goal

pub slice_bounds-text-end-2 : goal.slice_bounds-text-end-2
slice_bounds-text-end-2 g c =
    sym (length-take-le c.encode_len.result c.args.output.now
    (omega (arith, c.encode_len.ensures.length c.args.input.now refl, c.requires.fits)))

pub encode_mut-requires-clause-exact : goal.encode_mut-requires-clause-exact
encode_mut-requires-clause-exact g c =
    let is = c.encode_len.ensures.length c.args.input.now refl in
    length-take-le c.encode_len.result c.args.output.now (omega (arith, is, c.requires.fits))
    ∙ sym is

pub returns-clause-text : goal.returns-clause-text
returns-clause-text g c = rw c.encode_mut.ensures.text at c.write_all.ensures.bytes

pub returns-clause-begun : goal.returns-clause-begun
returns-clause-begun g c = rw c.encode_mut.ensures.text at c.write_all.ensures.begun
