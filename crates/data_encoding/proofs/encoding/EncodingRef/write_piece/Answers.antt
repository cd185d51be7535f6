use Rattle.std.proofs.Common.{refl, sym, arith, length-take-le}
use Rattle.data_encoding.proofs.encoding.EncodingRef.write_piece.Goals as goal

pub slice_bounds-encode_mut_str-end-2 : goal.slice_bounds-encode_mut_str-end-2
slice_bounds-encode_mut_str-end-2 g c =
    sym (length-take-le c.encode_len-len.result c.args.buffer.now
    (omega (
      arith,
      c.encode_len-len.ensures.length c.args.input.now refl,
      c.requires.fits,
    )))
