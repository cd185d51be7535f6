use Rattle.data_encoding_kernel.proofs.digits.OffsetAlphabetLemmas.{firsts-are}
use Rattle.data_encoding_kernel.proofs.simd.encode.offset_alphabet.firsts.Goals as goal

pub returns : goal.returns
returns c = firsts-are c.args.alphabet.now c.args.values c.fits-values.0
