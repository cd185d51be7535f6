use Rattle.std.proofs.Common.{ℕ, ◌*◌, ◌<◌, slice_index}
use Rattle.data_encoding_kernel.specs.Affine.{affine_entry}
use Rattle.data_encoding_kernel.specs.Values.{IsExact}
use Rattle.data_encoding_kernel.proofs.simd.decode.affine.affine_of.Given as goal

abbrev pub invariant-loop-row : goal.invariant-loop-row
invariant-loop-row l =
    (byte : ℕ) → byte < 16 * l.row
    → IsExact (affine_entry l.affine byte) (slice_index l.values byte)
