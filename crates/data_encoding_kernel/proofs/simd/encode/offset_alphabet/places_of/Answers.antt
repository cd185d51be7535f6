use Rattle.std.proofs.Common.{arith}
use Rattle.data_encoding_kernel.proofs.digits.OffsetAlphabetLemmas.{excesses-of}
use Rattle.data_encoding_kernel.proofs.simd.encode.offset_alphabet.places_of.Goals as goal

pub returns : goal.returns
returns c = excesses-of 64 48 (omega arith) c.args.values c.fits-values.0 c.fits-values.1
