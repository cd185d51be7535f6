use Rattle.std.proofs.Common.{arith}
use Rattle.data_encoding_kernel.proofs.digits.OffsetAlphabetLemmas.{holds-sums}
use Rattle.data_encoding_kernel.proofs.simd.encode.offset_alphabet.plain_offsets_of.Goals as goal

pub returns : goal.returns
returns c =
    holds-sums c.candidate-alphabet.result c.args.symbols.now (omega (arith, c.fits-symbols))
    (c.agrees.ensures c.if-not-agrees.false)
