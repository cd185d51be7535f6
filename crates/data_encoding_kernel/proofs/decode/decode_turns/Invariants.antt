use Rattle.std.proofs.Common.{ℕ, ◌*◌, List}
use Rattle.data_encoding_kernel.specs.Runs.{IsRunBy}
use Rattle.data_encoding_kernel.proofs.decode.decode_turns.Given as goal

abbrev pub invariant-loop-index : goal.invariant-loop-index
invariant-loop-index g l = record {
  run : (values : List ℕ) → g.T.DecodeTurn.holds values l.turn
      → IsRunBy values g.G.GroupSize.WIDTH l.order l.input (l.index * l.groups) l.initial.output
      l.output;
}
