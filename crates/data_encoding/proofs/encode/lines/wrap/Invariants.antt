use Rattle.std.specs.Prelude.{◌≡◌, ◌++◌, ◌*◌, take, flat_map}
use Rattle.data_encoding_meaning.specs.text.Bits.{runs}
use Rattle.data_encoding.proofs.encode.lines.wrap.Given as goal

abbrev pub invariant-loop-index : goal.invariant-loop-index
invariant-loop-index l = record {
  written : take (l.index * l.line_len) l.output
      ≡ flat_map (λ line. line ++ l.separator) (runs l.column (take (l.index * l.column) l.text));
}
