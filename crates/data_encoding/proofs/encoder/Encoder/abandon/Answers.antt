use Rattle.std.proofs.Common.{refl}
use Rattle.data_encoding.proofs.encoder.Encoder.abandon.Goals as goal

pub returns : goal.returns
returns g c = refl
