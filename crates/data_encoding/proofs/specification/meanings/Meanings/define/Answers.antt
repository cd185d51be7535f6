use Rattle.std.proofs.Common.{arith}
use Rattle.data_encoding_meaning.proofs.tables.EntryLemmas.{defined-same, defined-other, defined-free, HoldsEntries-set}
use Rattle.data_encoding.proofs.specification.meanings.Meanings.define.Goals as goal

pub returns-then-had-entry-clause-defined : goal.returns-then-had-entry-clause-defined
returns-then-had-entry-clause-defined c =
    rw (← c.self.view_is) (defined-same c.self.inside.values c.self.invariant c.args.byte
    c.args.entry (omega arith) c.if-had-entry.true)

pub returns-then-had-clause-refused : goal.returns-then-had-clause-refused
returns-then-had-clause-refused c =
    rw (← c.self.view_is) (defined-other c.self.inside.values c.self.invariant c.args.byte
    c.args.entry (omega arith) c.requires c.if-had-entry.false c.if-had.true)

pub invariant_of-self : goal.invariant_of-self
invariant_of-self c =
    HoldsEntries-set c.self.inside.values c.self.invariant c.args.byte c.args.entry (omega arith)
    c.requires

pub returns-clause-defined : goal.returns-clause-defined
returns-clause-defined c =
    rw (← c.self.view_is) (defined-free c.self.inside.values c.self.invariant c.args.byte
    c.args.entry (omega arith) c.requires c.if-had-entry.false c.if-had.false)
