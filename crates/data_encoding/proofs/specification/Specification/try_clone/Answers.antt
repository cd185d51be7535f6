use Rattle.std.proofs.Common.{rules}
use Rattle.data_encoding.proofs.specification.Specification.try_clone.Goals as goal

pub returns : goal.returns
returns c = search rules
