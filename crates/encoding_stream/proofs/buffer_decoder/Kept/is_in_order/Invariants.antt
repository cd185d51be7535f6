use Rattle.std.proofs.Common.{drop}
use Rattle.encoding_stream.specs.Resume.{held_positions, Ascend}
use Rattle.encoding_stream.proofs.buffer_decoder.Kept.is_in_order.Given as goal

abbrev pub invariant-loop-position : goal.invariant-loop-position
invariant-loop-position l = record {
  sound : Ascend l.start l.self.len (drop l.position-index (held_positions l.self))
      → Ascend 0 l.self.len (held_positions l.self);
  complete : Ascend 0 l.self.len (held_positions l.self)
      → Ascend l.start l.self.len (drop l.position-index (held_positions l.self));
}
