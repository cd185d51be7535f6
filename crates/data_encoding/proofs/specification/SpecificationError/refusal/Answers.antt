use Rattle.std.proofs.Common.{refl}
use Rattle.data_encoding.proofs.specification.SpecificationError.refusal.Goals as goal

pub returns : goal.returns
returns c = refl
