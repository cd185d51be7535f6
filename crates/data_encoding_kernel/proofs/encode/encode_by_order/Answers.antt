use Rattle.std.proofs.Common.{arith}
use Rattle.data_encoding_meaning.proofs.digits.SizeLemmas.{IsSmall-group}
use Rattle.data_encoding_meaning.proofs.lists.PartLemmas.{IsWhole-group}
use Rattle.data_encoding_kernel.proofs.encode.encode_by_order.Goals as goal

pub overflow_mul-BYTES : goal.overflow_mul-BYTES
overflow_mul-BYTES g c =
    record {
      fits = omega (arith, (IsSmall-group g.G.GroupSize.is_group).few_bytes, c.BYTES.ensures);
    }

pub overflow_sub-BYTES : goal.overflow_sub-BYTES
overflow_sub-BYTES g c =
    omega (arith, (IsWhole-group _ _ _ g.G.GroupSize.is_group).some_bytes, c.BYTES.ensures)
