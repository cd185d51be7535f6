use Rattle.std.proofs.Common.{arith}
use Rattle.data_encoding_kernel.proofs.digits.PlainAffineLemmas.{holds-agrees}
use Rattle.data_encoding_kernel.proofs.simd.decode.affine.plain_affine_of.Goals as goal

pub returns-in-Some : goal.returns-in-Some
returns-in-Some c =
    holds-agrees c.in-Some.affine c.args.values.now (omega (arith, c.fits-values)) c.in-Some.ensures
