use Rattle.std.proofs.Common.{◌≡◌, ◌≤◌, ◌<◌, ◌^◌, length, take}
use Rattle.std.specs.Simd.Lanes.{number_l}
use Rattle.data_encoding_kernel.proofs.simd.padded_load.number_of_three.Given as goal

abbrev pub invariant-loop-index : goal.invariant-loop-index
invariant-loop-index l = record {
  so_far : l.number ≡ number_l 256 (take l.index l.input);
  within : l.index ≤ length l.input;
  small : l.number < 256 ^ l.index;
}
