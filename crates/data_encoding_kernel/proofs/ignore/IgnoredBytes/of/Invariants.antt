use Rattle.std.proofs.Common.{◌≡◌, ◌-◌, map}
use Rattle.std.specs.List.{range_with_len}
use Rattle.std.specs.Simd.Lanes.{mask_l}
use Rattle.data_encoding_kernel.proofs.packing.IgnoredLemmas.{row_flags}
use Rattle.data_encoding_kernel.proofs.ignore.IgnoredBytes.of.Given as goal

abbrev pub invariant-loop-below : goal.invariant-loop-below
invariant-loop-below l =
    l.rows ≡ map (λ k. mask_l (row_flags l.values (8 - l.below) l.below k)) (range_with_len 0 16)
