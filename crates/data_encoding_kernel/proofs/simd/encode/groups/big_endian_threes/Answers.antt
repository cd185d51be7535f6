use Rattle.std.proofs.Common.{refl, arith}
use Rattle.data_encoding_meaning.specs.declared.encoding.BitOrder.TheVariants.{MostSignificantFirst}
use Rattle.data_encoding_kernel.proofs.digits.GroupWordLemmas.{lanes-are-words}
use Rattle.data_encoding_kernel.proofs.simd.encode.groups.big_endian_threes.Goals as goal

pub returns : goal.returns
returns c =
    lanes-are-words MostSignificantFirst 3 1 c.args.input.now c.requires
    (λ k. (c.type_inv.input k).fits) 4 4294967296 refl (omega arith) (omega arith)
    (λ group. refl)
