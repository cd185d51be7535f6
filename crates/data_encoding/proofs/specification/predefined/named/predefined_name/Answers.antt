use Rattle.std.proofs.Common.{refl}
use Rattle.data_encoding.proofs.specification.predefined.named.predefined_name.Goals as goal

pub returns-in-16-clause-known : goal.returns-in-16-clause-known
returns-in-16-clause-known c = rw c.in-16.is refl
