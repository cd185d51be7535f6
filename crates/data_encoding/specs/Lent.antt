-- The view of a `LentEncoding` in contracts.
use Rattle.data_encoding.specs.declared.encoding.lent_encoding.LentEncoding.{LentEncoding}
use Rattle.data_encoding_meaning.specs.text.Base.{Base}
use Rattle.data_encoding.specs.Encoding.{base_of_tables}
use Rattle.data_encoding.specs.PlainTables.{plain_tables}

-- The encoding of a `LentEncoding`.
unfoldable pub base_of_lent : LentEncoding → Base
base_of_lent lent = base_of_tables (plain_tables lent.fields.now lent.separator.now)
