use Rattle.data_encoding.specs.PlainTables.{plain_tables}
use Rattle.data_encoding.proofs.tables.PlainLemmas.{kept-rules}
use Rattle.data_encoding.proofs.encoding.lent_encoding.LentEncoding.by_ref.Goals as goal

pub invariant_of-result : goal.invariant_of-result
invariant_of-result c =
    let lent = c.args.self.now in
    kept-rules (plain_tables lent.fields.now lent.separator.now) lent.kept
