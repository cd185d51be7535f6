use Rattle.data_encoding_kernel.proofs.digits.OtherMaskLemmas.{alike-at, alike-below}
use Rattle.data_encoding_kernel.proofs.simd.decode.last_symbols.alike_bits.Goals as goal

pub returns-clause-few : goal.returns-clause-few
returns-clause-few c = alike-below c.args.byte c.args.text c.fits-text.0

pub returns-clause-alike : goal.returns-clause-alike
returns-clause-alike c = alike-at c.args.byte c.args.text c.fits-text.0
