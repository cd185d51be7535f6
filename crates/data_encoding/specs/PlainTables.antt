-- The tables of an encoding as plain data.
use Rattle.std.specs.Prelude.{ℕ, nat_lt, Bool, List, Option, Some, None, if◌then◌else◌}
use Rattle.data_encoding_meaning.specs.declared.encoding.BitOrder.{BitOrder}
use Rattle.data_encoding_meaning.specs.declared.encoding.BitOrder.TheVariants.{MostSignificantFirst, LeastSignificantFirst}
use Rattle.data_encoding.specs.declared.encoding.plain_encoding.PlainFields.{PlainFields}
use Rattle.data_encoding.specs.Encoding.{EncodingTables}

-- The order of bits that the flag means.
abbrev pub order_by : Bool → BitOrder
order_by least = if least then LeastSignificantFirst else MostSignificantFirst

-- The padding character, or none if the entry is not ASCII.
abbrev pub padding_by : ℕ → Option ℕ
padding_by entry = if nat_lt entry 128 then Some entry else None

-- The tables that the plain fields and the separator describe.
abbrev pub plain_tables : PlainFields → List ℕ → EncodingTables
plain_tables f separator = record {
  symbols = f.symbols.entries;
  values = f.values.entries;
  width = f.width;
  order = order_by f.least_significant_first;
  checks_trailing_bits = f.checks_trailing_bits;
  concatenates = f.concatenates;
  padding = padding_by f.padding;
  ignores = f.ignores;
  column = f.column;
  separator = separator;
  form = f.values.form;
  offsets = f.symbols.form;
}
