use Rattle.std.proofs.Common.{◌≡◌, ℕ, ◌-◌, ◌/◌, ◌%◌, ◌≤◌, List, length}
use Rattle.data_encoding_kernel.specs.Runs.{IsRunBy}
use Rattle.data_encoding_meaning.specs.text.Base.{group_symbols}
use Rattle.data_encoding_kernel.proofs.decode.decode_windows.Given as goal

abbrev pub invariant-loop-at : goal.invariant-loop-at
invariant-loop-at g l = record {
  whole : l.at % group_symbols l.join.width ≡ 0;
  within : l.at ≤ length l.input;
  run : (values : List ℕ) → g.L.LookUp.holds values l.look_up
      → IsRunBy values l.join.width l.join.order l.input (l.at / group_symbols l.join.width)
      l.initial.output l.output;
}

abbrev pub decreases-loop-at : goal.decreases-loop-at
decreases-loop-at g l = length l.input - l.at
