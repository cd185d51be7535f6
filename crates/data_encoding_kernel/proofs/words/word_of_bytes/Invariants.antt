use Rattle.std.proofs.Common.{◌≡◌, ◌*◌, ◌≤◌, length, take}
use Rattle.data_encoding_kernel.specs.Words.{word_of}
use Rattle.data_encoding_kernel.proofs.words.word_of_bytes.Given as goal

abbrev pub invariant-loop-index : goal.invariant-loop-index
invariant-loop-index g l = record {
  so_far : l.word ≡ word_of l.order 8 g.G.GroupSize.BYTES (take l.index l.input);
  within : l.index ≤ length l.input;
  small : l.word ≤ l.index * 72057594037927936;
}
