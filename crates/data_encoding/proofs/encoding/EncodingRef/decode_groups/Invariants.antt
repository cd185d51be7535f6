use Rattle.data_encoding.specs.Groups.{HasReadGroups}
use Rattle.std.proofs.Common.{take}
use Rattle.data_encoding.proofs.encoding.EncodingRef.decode_groups.Given as goal

abbrev pub invariant-loop : goal.invariant-loop
invariant-loop g l = record {
  so_far : HasReadGroups l.self (take l.len l.part) l.at l.output;
}
