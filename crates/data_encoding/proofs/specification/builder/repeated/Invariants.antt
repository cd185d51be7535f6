use Rattle.std.proofs.Common.{◌≡◌, ◌-◌, ◌^◌, length, replicate, take}
use Rattle.std.specs.List.{concat}
use Rattle.data_encoding.proofs.specification.builder.repeated.Given as goal

abbrev pub invariant-loop : goal.invariant-loop
invariant-loop l = record {
  long : length l.table ≡ 256;
  filled : l.filled ≡ 2 ^ l.counter;
  front : take l.filled l.table
      ≡ concat (replicate (2 ^ (l.counter - l.fn.width)) l.fn.symbols);
}
