use Rattle.std.proofs.Common.{arith}
use Rattle.data_encoding.proofs.tables.TableRuleLemmas.{is_base_of}
use Rattle.data_encoding.proofs.encoding.EncodingRef.has_one_meaning.Goals as goal

pub returns-then-not-self-clause-base : goal.returns-then-not-self-clause-base
returns-then-not-self-clause-base c =
    rw (← c.self.view_is) (is_base_of _ c.self.invariant)

pub returns-else-not-self-clause-base : goal.returns-else-not-self-clause-base
returns-else-not-self-clause-base c =
    rw (← c.self.view_is) (is_base_of _ c.self.invariant)

pub returns-then-not-self-clause-value : goal.returns-then-not-self-clause-value
returns-then-not-self-clause-value c =
    rw (← c.self.view_is, ← c.self.invariant.ignores) (grind arith)

pub returns-else-not-self-clause-value : goal.returns-else-not-self-clause-value
returns-else-not-self-clause-value c =
    rw (← c.self.view_is, ← c.self.invariant.ignores) (grind arith)
