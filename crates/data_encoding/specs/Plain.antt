-- The view of a `PlainEncoding` in contracts.
use Rattle.std.specs.Prelude.{take}
use Rattle.data_encoding.specs.declared.encoding.plain_encoding.PlainEncoding.{PlainEncoding}
use Rattle.data_encoding_meaning.specs.text.Base.{Base}
use Rattle.data_encoding.specs.Encoding.{base_of_tables}
use Rattle.data_encoding.specs.PlainTables.{plain_tables}

-- The encoding of a `PlainEncoding`.
abbrev pub base_of_plain : PlainEncoding → Base
base_of_plain plain =
    base_of_tables (plain_tables plain.fields (take plain.separator_len plain.separator))
