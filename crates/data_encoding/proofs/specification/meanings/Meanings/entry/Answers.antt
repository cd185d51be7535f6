use Rattle.std.proofs.Common.{arith}
use Rattle.data_encoding_meaning.proofs.tables.EntryLemmas.{meaning-any, is_entry-any}
use Rattle.data_encoding.proofs.specification.meanings.Meanings.entry.Goals as goal

pub returns-clause-meaning : goal.returns-clause-meaning
returns-clause-meaning c =
    rw (← c.self.view_is) (meaning-any c.self.inside.values c.self.invariant c.args.byte
    (omega arith))

pub returns-clause-entry : goal.returns-clause-entry
returns-clause-entry c =
    is_entry-any c.self.inside.values c.self.invariant c.args.byte (omega arith)
