use Rattle.data_encoding_kernel.proofs.digits.GroupWordLemmas.{bytes-are-words}
use Rattle.data_encoding_kernel.proofs.simd.encode.groups.eight_ones.Goals as goal

pub returns : goal.returns
returns c order =
    bytes-are-words c.args.input.now (λ k. (c.type_inv.input k).fits) order c.requires
