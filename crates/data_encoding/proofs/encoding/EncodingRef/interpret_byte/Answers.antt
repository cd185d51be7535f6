use Rattle.std.proofs.Common.{sym, ap, ◌∙◌, arith}
use Rattle.data_encoding_meaning.specs.specification.Entries.{meaning_of_entry}
use Rattle.data_encoding_meaning.proofs.tables.EntryLemmas.{meaning-any}
use Rattle.data_encoding.proofs.tables.TableRuleLemmas.{HoldsEntries-tables}
use Rattle.data_encoding_meaning.proofs.tables.EntryRuleLemmas.{value-symbol}
use Rattle.data_encoding_meaning.proofs.tables.LayoutLemmas.{meaning-ignored, meaning-invalid, meaning-padding}
use Rattle.data_encoding.proofs.encoding.EncodingRef.interpret_byte.Goals as goal

pub returns-then-entry-lt-MOST_SYMBOLS : goal.returns-then-entry-lt-MOST_SYMBOLS
returns-then-entry-lt-MOST_SYMBOLS c =
    let holds = HoldsEntries-tables _ c.self.invariant in
    let means =
    meaning-any c.self.inside.fields.now.values.entries holds c.args.byte (omega arith)
    ∙ ap meaning_of_entry (sym c.entry-entry.ensures) in
    rw (← c.self.view_is) (sym (means ∙ value-symbol _ c.if-entry-lt-MOST_SYMBOLS.true))

pub returns-then-entry : goal.returns-then-entry
returns-then-entry c =
    let holds = HoldsEntries-tables _ c.self.invariant in
    let means =
    meaning-any c.self.inside.fields.now.values.entries holds c.args.byte (omega arith)
    ∙ ap meaning_of_entry (sym c.entry-entry.ensures) in
    rw (← c.self.view_is) (meaning-ignored _ c.if-entry.true ∙ sym means)

pub returns-then-entry-2 : goal.returns-then-entry-2
returns-then-entry-2 c =
    let holds = HoldsEntries-tables _ c.self.invariant in
    let means =
    meaning-any c.self.inside.fields.now.values.entries holds c.args.byte (omega arith)
    ∙ ap meaning_of_entry (sym c.entry-entry.ensures) in
    rw (← c.self.view_is) (meaning-padding _ c.if-entry-2.true ∙ sym means)

pub returns-else-entry-2 : goal.returns-else-entry-2
returns-else-entry-2 c =
    let holds = HoldsEntries-tables _ c.self.invariant in
    let means =
    meaning-any c.self.inside.fields.now.values.entries holds c.args.byte (omega arith)
    ∙ ap meaning_of_entry (sym c.entry-entry.ensures) in
    rw (← c.self.view_is) (meaning-invalid _ c.if-entry-lt-MOST_SYMBOLS.false c.if-entry.false
    c.if-entry-2.false ∙ sym means)
