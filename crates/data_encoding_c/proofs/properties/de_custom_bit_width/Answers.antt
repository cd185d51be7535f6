use Rattle.std.proofs.Common.{refl}
use Rattle.data_encoding_c.proofs.properties.de_custom_bit_width.Goals as goal

pub returns : goal.returns
returns c = record { status = refl; value = cc }
