-- The specification of an encoding, put together.
use Rattle.std.proofs.Common.{◌≡◌, ℕ, zero, suc, ◌^◌, List, map, take, refl, ◌∙◌}
use Rattle.data_encoding.specs.Encoding.{EncodingTables, KeepsRules, KeepsWrapping, base_of_tables}
use Rattle.data_encoding_meaning.specs.text.Base.{wrapping_by}
use Rattle.data_encoding_meaning.specs.specification.Layout.{column_of, fields_of, ignored_bytes, own_byte, separator_of, translated_bytes}
use Rattle.data_encoding_meaning.specs.specification.Fields.{Fields}

column-kept : (column : ℕ) (separator : List ℕ) → column ≡ column_of (wrapping_by column separator)
column-kept zero separator = refl
column-kept (suc n) separator = refl

separator-kept : (column : ℕ) (separator : List ℕ) (width : ℕ) (values : List ℕ)
    → KeepsWrapping column separator width values
    → separator ≡ separator_of (wrapping_by column separator)
separator-kept zero separator width values keeps = keeps
separator-kept (suc n) separator width values keeps = refl

-- The specification that has the fields of the tables.
pub record Describes (f : Fields) (e : EncodingTables) : Type 0 where
  pub symbols : f.symbols ≡ take (2 ^ e.width) e.symbols
  pub order : f.order ≡ e.order
  pub checks : f.checks_trailing_bits ≡ e.checks_trailing_bits
  pub concatenates : f.concatenates ≡ e.concatenates
  pub padding : f.padding ≡ e.padding
  pub ignored : f.ignored ≡ ignored_bytes (base_of_tables e)
  pub column : f.column ≡ e.column
  pub separator : f.separator ≡ e.separator
  pub from : f.from ≡ translated_bytes (base_of_tables e)
  pub to : f.to ≡ map (own_byte (base_of_tables e)) (translated_bytes (base_of_tables e))

pub fields-are : (f : Fields) (e : EncodingTables) → KeepsRules e → Describes f e
    → f ≡ fields_of (base_of_tables e)
fields-are f e rules is =
    let column = is.column ∙ column-kept e.column e.separator in
    let separator = is.separator
    ∙ separator-kept e.column e.separator e.width e.values rules.wrapping in
    λ i. record {
      symbols = is.symbols i;
      order = is.order i;
      checks_trailing_bits = is.checks i;
      concatenates = is.concatenates i;
      padding = is.padding i;
      ignored = is.ignored i;
      column = column i;
      separator = separator i;
      from = is.from i;
      to = is.to i;
    }
