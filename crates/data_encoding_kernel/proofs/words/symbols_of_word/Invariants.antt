use Rattle.std.proofs.Common.{◌≡◌, ◌≤◌, length, map, take, slice_index}
use Rattle.std.specs.List.{range_with_len}
use Rattle.data_encoding_kernel.specs.Words.{low_byte}
use Rattle.data_encoding_kernel.proofs.words.symbols_of_word.Given as goal

abbrev pub invariant-loop-index : goal.invariant-loop-index
invariant-loop-index g l = record {
  so_far : take l.index l.output
      ≡ map (λ k. slice_index l.fn.symbols (low_byte l.fn.order g.G.GroupSize.WIDTH
      g.G.GroupSize.SYMBOLS l.fn.word
      k))
      (range_with_len 0 l.index);
  len : length l.output ≡ length l.fn.output;
  within : l.index ≤ length l.output;
}
