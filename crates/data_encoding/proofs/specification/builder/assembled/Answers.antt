use Rattle.std.proofs.Common.{◌∙◌, ap, map, take, subst, sym}
use Rattle.data_encoding_meaning.specs.specification.Entries.{HoldsEntries, meaning_of_entry}
use Rattle.std.specs.Bool.{IsTrue}
use Rattle.data_encoding_kernel.specs.Affine.{agrees}
use Rattle.data_encoding_kernel.specs.OffsetAlphabet.{has_sums}
use Rattle.data_encoding.specs.Encoding.{EncodingTables}
use Rattle.data_encoding.specs.PlainTables.{order_by, padding_by}
use Rattle.data_encoding.specs.Specification.{fields_of_parts}
use Rattle.data_encoding.proofs.judgement.BuilderLemmas.{IsMadeOf, lines-short, padding-ascii, rules-made, is_built-made}
use Rattle.data_encoding.proofs.specification.builder.assembled.Goals as goal

pub padding_entry-requires : goal.padding_entry-requires
padding_entry-requires c =
    padding-ascii c.args.width (fields_of_parts c.args.parts.now) c.args.meanings c.requires.sized
    c.requires.width.some c.requires.judged

pub lines_of-column-requires-clause-column : goal.lines_of-column-requires-clause-column
lines_of-column-requires-clause-column c = λ on.
    (lines-short c.args.width (fields_of_parts c.args.parts.now) c.args.meanings
    c.requires.sized c.requires.width.some c.requires.judged on).0

pub lines_of-column-requires-clause-separator : goal.lines_of-column-requires-clause-separator
lines_of-column-requires-clause-separator c = λ on.
    (lines-short c.args.width (fields_of_parts c.args.parts.now) c.args.meanings
    c.requires.sized c.requires.width.some c.requires.judged on).1

tables : goal.After-copied → EncodingTables
tables c = record {
  symbols = c.new.result.entries;
  values = c.new-2.result.entries;
  width = c.args.width;
  order = order_by c.is_least_first.result;
  checks_trailing_bits = c.checks_trailing_bits.result;
  concatenates = c.concatenates.result;
  padding = padding_by c.padding_entry.result;
  ignores = c.ignores_some-ignores.result;
  column = c.lines_of-column.result.0;
  separator = c.copied.result.items;
  form = c.new-2.result.form;
  offsets = c.new.result.form;
}

made : (c : goal.After-copied)
    → IsMadeOf (fields_of_parts c.args.parts.now) (tables c) c.args.meanings
unfolding tables
made c = record {
  width_is = c.requires.sized;
  is_width = c.requires.width;
  count = c.requires.count;
  judged = c.requires.judged;
  repeat = c.new.ensures.entries ∙ c.repeated.ensures;
  holds = subst HoldsEntries (sym c.new-2.ensures.entries) c.into_values.ensures.entries;
  values =
      ap (λ l. map meaning_of_entry (take 128 l)) c.new-2.ensures.entries
      ∙ c.into_values.ensures.meanings;
  order = c.is_least_first.ensures;
  checks = c.checks_trailing_bits.ensures;
  concatenates = c.concatenates.ensures;
  padding = c.padding_entry.ensures;
  ignores = c.ignores_some-ignores.ensures;
  column = c.lines_of-column.ensures.column;
  separator = c.copied.ensures ∙ c.lines_of-column.ensures.separator;
  form_agrees =
      subst (λ l. IsTrue (agrees l c.new-2.result.form)) (sym c.new-2.ensures.entries)
      c.new-2.ensures.agrees;
  offsets_agree =
      subst (λ l. IsTrue (has_sums l c.new.result.form)) (sym c.new.ensures.entries)
      c.new.ensures.agrees;
}

pub invariant_of-result : goal.invariant_of-result
unfolding tables
invariant_of-result c =
    rules-made (fields_of_parts c.args.parts.now) (tables c) c.args.meanings (made c)

pub returns : goal.returns
unfolding tables
returns c =
    is_built-made (fields_of_parts c.args.parts.now) (tables c) c.args.meanings (made c)
