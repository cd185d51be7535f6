use Rattle.std.proofs.Common.{arith}
use Rattle.data_encoding_meaning.proofs.text.BlockLemmas.{piece-few, piece-fits, piece-some, piece-whole}
use Rattle.data_encoding.proofs.encoding.EncodingRef.encode_piece_len.Goals as goal

pub overflow_mul-result : goal.overflow_mul-result
overflow_mul-result c =
    let few =
    piece-few c.args.self.now c.block_len.result c.block_len.ensures.length c.args.output_len
    c.encode_align.result c.encode_align.ensures.value in
    record { fits = omega (arith, few, c.ranges.output_len.fits) }

pub returns : goal.returns
returns c =
    let seen = c.args.self.now in
    let block = c.block_len.result in
    let is_block = c.block_len.ensures.length in
    let align = c.encode_align.result in
    let is_align = c.encode_align.ensures.value in
    record {
      some = piece-some seen block is_block c.args.output_len align is_align c.requires.room;
      few = piece-few seen block is_block c.args.output_len align is_align;
      whole = piece-whole seen block is_block c.args.output_len align is_align;
      fits = piece-fits seen block is_block c.args.output_len align is_align;
      base = c.block_len.ensures.base;
    }
