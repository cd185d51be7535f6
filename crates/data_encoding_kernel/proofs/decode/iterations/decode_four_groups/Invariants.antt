use Rattle.std.proofs.Common.{◌<◌}
use Rattle.data_encoding_kernel.specs.Runs.{IsRunBy}
use Rattle.data_encoding_kernel.proofs.decode.iterations.decode_four_groups.Given as goal

abbrev pub invariant-loop-index : goal.invariant-loop-index
invariant-loop-index g l = record {
  run : l.all < 128
      → IsRunBy l.values g.G.GroupSize.WIDTH l.order l.input l.index l.initial.output l.output;
}
