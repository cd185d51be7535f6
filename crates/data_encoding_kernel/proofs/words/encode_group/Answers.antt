use Rattle.std.proofs.Common.{map, length, slice_index, ◌∙◌, arith}
use Rattle.std.specs.List.{range_with_len}
use Rattle.data_encoding_kernel.specs.Words.{low_byte}
use Rattle.data_encoding_kernel.proofs.digits.KernelLemmas.{plain_text-word}
use Rattle.data_encoding_meaning.proofs.digits.SizeLemmas.{symbols-within}
use Rattle.data_encoding_kernel.proofs.words.encode_group.Goals as goal

pub symbols_of_word-requires : goal.symbols_of_word-requires
symbols_of_word-requires g c =
    omega (
      arith,
      c.requires.exact,
      symbols-within g.G.GroupSize.is_group (length c.args.input.now) c.requires.few,
    )

pub returns : goal.returns
returns g c = record {
  text = λ base writes.
      c.symbols_of_word.ensures
      ∙ (λ i. map (λ k. slice_index c.args.symbols.now
      (low_byte c.args.order g.G.GroupSize.WIDTH g.G.GroupSize.SYMBOLS
      (c.word_of_bytes-word.ensures i) k))
      (range_with_len 0 (c.requires.exact i)))
      ∙ plain_text-word base c.args.order g.G.GroupSize.WIDTH g.G.GroupSize.BYTES
      g.G.GroupSize.SYMBOLS c.args.symbols.now
      c.args.input.now g.G.GroupSize.is_group c.requires.few writes;
}
