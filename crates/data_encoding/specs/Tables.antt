-- The tables of a base, for its layout and its specification.
use Rattle.std.specs.Prelude.{◌≡◌, map}
use Rattle.data_encoding.specs.declared.specification.from_tables.Tables.{Tables}
use Rattle.data_encoding_meaning.specs.text.Base.{Base}
use Rattle.data_encoding_meaning.specs.specification.Entries.{meaning_of_entry}

-- The tables have the symbols, the meanings and the padding character of the base.
pub record HasTables (base : Base) (tables : Tables) : Type 0 where
  pub symbols : base.symbols ≡ tables.symbols.now
  pub meanings : base.meanings ≡ map meaning_of_entry tables.values.now
  pub padding : base.padding ≡ tables.padding
