use Rattle.std.proofs.Common.{◌≡◌, ◌≤◌, length, map, take}
use Rattle.std.specs.List.{range_with_len}
use Rattle.data_encoding_kernel.specs.Words.{digit}
use Rattle.data_encoding_kernel.proofs.words.bytes_of_word.Given as goal

abbrev pub invariant-loop-index : goal.invariant-loop-index
invariant-loop-index l = record {
  so_far : take l.index l.output
      ≡ map (digit l.fn.order 8 l.fn.count l.fn.word) (range_with_len 0 l.index);
  len : length l.output ≡ length l.fn.output;
  within : l.index ≤ length l.output;
}
