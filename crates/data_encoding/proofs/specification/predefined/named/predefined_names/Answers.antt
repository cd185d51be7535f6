use Rattle.std.proofs.Common.{refl}
use Rattle.data_encoding.proofs.specification.predefined.named.predefined_names.Goals as goal

pub returns : goal.returns
returns c = refl
