use Rattle.std.proofs.Common.{◌*◌, take}
use Rattle.data_encoding_kernel.specs.Tables.{IsTextBy}
use Rattle.data_encoding_kernel.proofs.encode.encode_turns.Given as goal

abbrev pub invariant-loop-index : goal.invariant-loop-index
invariant-loop-index g l = record {
  written : IsTextBy l.table.entries g.G.GroupSize.WIDTH g.O.ConstantOrder.ORDER
      (take (l.index * l.read_len) l.input) (take (l.index * l.written_len) l.output);
}
