use Rattle.std.proofs.Common.{◌≡◌, ◌/◌, ◌%◌, ◌^◌, ◌==◌, drop, get_or, take, Ok, refl, sym, ap, ◌∙◌, subst, arith}
use Rattle.data_encoding.specs.declared.specification.from_tables.Tables.{Tables}
use Rattle.data_encoding_meaning.specs.text.Base.{Base, IsWidth}
use Rattle.data_encoding_meaning.specs.specification.Fields.{Fields, base_of}
use Rattle.data_encoding_meaning.specs.specification.Layout.{fields_of}
use Rattle.data_encoding_meaning.proofs.judgement.RoundTripLemmas.{specification-again}
use Rattle.data_encoding_meaning.proofs.judgement.RuleLemmas.{IsRuled-built}
use Rattle.data_encoding_meaning.proofs.tables.ReadingLemmas.{IsReadAs, built-is, built-specified, read-layout}
use Rattle.data_encoding.proofs.tables.ReadTableLemmas.{has_tables}
use Rattle.data_encoding.proofs.specification.layout.parse_layout.Goals as goal
use Rattle.data_encoding.proofs.specification.layout.parse_layout.Goals.{then-width-eq0-via-then-width-eq0, then-width-eq0-via-else-width-eq0+then-width-gt6}

pub returns-then-width-eq0-clause-found : goal.returns-then-width-eq0-clause-found
returns-then-width-eq0-clause-found c = λ base is same.
    let read = read-layout base c.args.bytes.now is same in
    let width : IsWidth (get_or c.args.bytes.now 513 0 % 8) =
    subst IsWidth (sym read.has_flags.width_is)
    (IsRuled-built is.fields base is.is_built).is_width in
    elim c.then-width-eq0.branch [
      | then-width-eq0-via-then-width-eq0 w ↦
          absurd (omega (arith, width.some, w.if-width-eq0.true))
      | then-width-eq0-via-else-width-eq0+then-width-gt6 w ↦
          absurd (omega (arith, width.few, w.if-width-gt6.true))
    ]

-- what is read
fields : goal.After-ok → Fields
fields c = record {
  symbols = take c.alphabet_len.result c.args.bytes.now;
  order = c.order_of.result;
  checks_trailing_bits = get_or c.args.bytes.now 513 0 / 16 % 2 == 1;
  concatenates = get_or c.args.bytes.now 513 0 / 32 % 2 == 0;
  padding = c.character.result;
  ignored = c.as_slice.result.now;
  column = c.column_of.result;
  separator = c.separator_of.result.now;
  from = c.as_slice-2.result.now;
  to = c.as_slice-3.result.now;
}

-- is the specification of the base that has the layout
fields-of_base : (c : goal.After-ok) (base : Base) → IsReadAs base c.args.bytes.now
    → fields c ≡ fields_of base
unfolding fields
fields-of_base c base read =
    let bytes = c.args.bytes.now in
    let count : c.alphabet_len.result ≡ 2 ^ base.width =
    c.alphabet_len.ensures.value ∙ ap (λ w. 2 ^ w) read.has_flags.width_is in
    let symbols : take c.alphabet_len.result bytes ≡ take (2 ^ base.width) bytes =
    ap (λ n. take n bytes) count in
    let has = λ (tables : Tables) (s : tables.symbols.now ≡ take c.alphabet_len.result bytes)
    (v : tables.values.now ≡ take 128 (drop 256 bytes))
    (p : tables.padding ≡ c.padding_of.result).
    has_tables base bytes read tables (s ∙ symbols) v (p ∙ c.padding_of.ensures) in
    let padding = c.character.ensures ∙ c.padding_of.ensures ∙ read.padding in
    let order = c.order_of.ensures ∙ read.has_flags.order_is in
    let ignored = c.as_slice.ensures.value
    ∙ c.ignored-ignored.ensures base (has _ refl refl refl) in
    let column = c.column_of.ensures ∙ read.column in
    let separator = c.separator_of.ensures ∙ read.separator in
    let from = c.as_slice-2.ensures.value
    ∙ c.translations-translations.ensures.from base (has _ refl refl refl) in
    let to = c.as_slice-3.ensures.value
    ∙ c.translations-translations.ensures.to base (has _ refl refl refl) in
    λ i. record {
      symbols = (symbols ∙ read.symbols) i;
      order = order i;
      checks_trailing_bits = read.has_flags.checks_is i;
      concatenates = read.has_flags.concatenates_is i;
      padding = padding i;
      ignored = ignored i;
      column = column i;
      separator = separator i;
      from = from i;
      to = to i;
    }

pub returns-clause-base : goal.returns-clause-base
unfolding fields
returns-clause-base c =
    rw c.ok.ensures.value (built-specified c.build.result (fields c) c.build.ensures.is_built)

pub returns-clause-found : goal.returns-clause-found
unfolding fields
returns-clause-found c = λ base is same.
    let again : base_of (fields c) ≡ Ok base =
    ap base_of (fields-of_base c base (read-layout base c.args.bytes.now is same))
    ∙ specification-again base is in
    c.ok.ensures.value
    ∙ built-is c.build.result (fields c) base again c.build.ensures.is_built
    c.build.ensures.refused
