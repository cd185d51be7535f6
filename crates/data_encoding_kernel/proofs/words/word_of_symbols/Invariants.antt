use Rattle.std.proofs.Common.{◌≡◌, ℕ, ◌*◌, ◌^◌, ◌<◌, ◌≤◌, length, map, take, slice_index}
use Rattle.data_encoding_kernel.specs.Words.{word_of}
use Rattle.data_encoding_kernel.proofs.words.word_of_symbols.Given as goal

abbrev pub invariant-loop-index : goal.invariant-loop-index
invariant-loop-index l = record {
  so_far : ((k : ℕ) → k < l.index
      → slice_index l.fn.values (slice_index l.fn.input k) < 2 ^ l.fn.width)
      → l.word ≡ word_of l.fn.order l.fn.width l.fn.count
      (map (slice_index l.fn.values) (take l.index l.fn.input));
  only : l.entries < 128
      → (k : ℕ) → k < l.index → slice_index l.fn.values (slice_index l.fn.input k) < 128;
  all : ((k : ℕ) → k < l.index → slice_index l.fn.values (slice_index l.fn.input k) < 128)
      → l.entries < 128;
  within : l.index ≤ length l.fn.input;
  small : l.word ≤ l.index * 72057594037927936;
}
