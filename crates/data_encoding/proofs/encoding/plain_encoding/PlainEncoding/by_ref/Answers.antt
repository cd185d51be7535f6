use Rattle.std.proofs.Common.{take}
use Rattle.data_encoding.specs.PlainTables.{plain_tables}
use Rattle.data_encoding.proofs.tables.PlainLemmas.{kept-rules}
use Rattle.data_encoding.proofs.encoding.plain_encoding.PlainEncoding.by_ref.Goals as goal

pub invariant_of-result : goal.invariant_of-result
invariant_of-result c =
    kept-rules (plain_tables c.args.self.now.fields
    (take c.args.self.now.separator_len c.args.self.now.separator)) c.args.self.now.kept
