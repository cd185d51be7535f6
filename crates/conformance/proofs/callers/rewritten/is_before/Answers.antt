use Rattle.conformance.proofs.OrderLemmas.{less-IsBefore}
use Rattle.conformance.proofs.callers.rewritten.is_before.Goals as goal

pub returns : goal.returns
returns c = less-IsBefore c.args.one.now c.args.other.now c.lt.result c.lt.ensures
