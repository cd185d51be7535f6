use Rattle.data_encoding_kernel.specs.Runs.{IsRunBy}
use Rattle.data_encoding_kernel.proofs.simd.decode.last_symbols.Join.decode_in_words_of.Given as goal

abbrev pub invariant-loop-index : goal.invariant-loop-index
invariant-loop-index g l = record {
  run : IsRunBy l.values g.G.GroupSize.WIDTH l.self.order l.input l.index l.fn.output
      l.output;
}
