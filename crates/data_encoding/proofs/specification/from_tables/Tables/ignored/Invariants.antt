use Rattle.std.proofs.Common.{◌≡◌, ◌≤◌, length}
use Rattle.std.specs.List.{filter, range_with_len}
use Rattle.data_encoding_meaning.specs.text.Base.{Base, is_ignored, meaning}
use Rattle.data_encoding.specs.Tables.{HasTables}
use Rattle.data_encoding.proofs.specification.from_tables.Tables.ignored.Given as goal

abbrev pub invariant-loop-byte : goal.invariant-loop-byte
invariant-loop-byte l = record {
  few : length l.bytes.items ≤ l.byte;
  are : (base : Base) → HasTables base l.self
      → l.bytes.items
      ≡ filter (λ byte. is_ignored (meaning base byte)) (range_with_len 0 l.byte);
}
