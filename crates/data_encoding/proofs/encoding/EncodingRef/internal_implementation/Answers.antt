use Rattle.std.proofs.Common.{◌++◌, ◌∷◌, [], false, true, append_assoc, append-nil, arith, sym, ◌∙◌}
use Rattle.std.proofs.lemmas.Grind.{common_steps}
use Rattle.data_encoding.specs.PlainTables.{plain_tables}
use Rattle.data_encoding.proofs.tables.LayoutTableLemmas.{layout-joined, lines-tail, no_lines-tail, padding-entry}
use Rattle.data_encoding.proofs.tables.TableRuleLemmas.{separator-short}
use Rattle.data_encoding.proofs.encoding.EncodingRef.internal_implementation.Goals as goal

pub put-requires-then-self-ne0-2 : goal.put-requires-then-self-ne0-2
put-requires-then-self-ne0-2 c =
    let few = separator-short _ c.self.invariant in
    grind (arith, common_steps, few)

pub returns-then-self-ne0 : goal.returns-then-self-ne0
returns-then-self-ne0 c =
    let e = plain_tables c.self.inside.fields.now c.self.inside.separator.now in
    let flags = rw (← c.self.view_is) at c.flags.ensures in
    let head = rw (c.min.ensures, padding-entry c.self.inside.fields.now.padding, flags)
    at c.put-3.ensures in
    let last = c.put-then-self-ne0-2.ensures
    ∙ (λ i. c.put-then-self-ne0.ensures i ++ c.self.inside.separator.now)
    ∙ append_assoc c.put-3.new.layout.items (e.column ∷ []) e.separator in
    rw (← c.self.view_is) (layout-joined _ c.self.invariant _ _ _ _ _
    (e.column ∷ e.separator) c.new-bytes.ensures c.put.ensures c.put-2.ensures head last
    (lines-tail _ c.self.invariant c.if-self-ne0.true))

pub returns-then-self : goal.returns-then-self
returns-then-self c =
    let flags = rw (← c.self.view_is) at c.flags.ensures in
    let head = rw (c.min.ensures, padding-entry c.self.inside.fields.now.padding, flags)
    at c.put-3.ensures in
    rw (← c.self.view_is) (layout-joined _ c.self.invariant _ _ _ _ _ (0 ∷ [])
    c.new-bytes.ensures c.put.ensures c.put-2.ensures head c.put-then-self.ensures
    (no_lines-tail _ c.self.invariant true c.if-self-ne0.false
    (sym c.self.invariant.ignores ∙ c.if-self.true)))

pub returns-else-self : goal.returns-else-self
returns-else-self c =
    let flags = rw (← c.self.view_is) at c.flags.ensures in
    let head = rw (c.min.ensures, padding-entry c.self.inside.fields.now.padding, flags)
    at c.put-3.ensures in
    rw (← c.self.view_is) (layout-joined _ c.self.invariant _ _ _ _ _ []
    c.new-bytes.ensures c.put.ensures c.put-2.ensures head
    (sym (append-nil c.put-3.new.layout.items))
    (no_lines-tail _ c.self.invariant false c.if-self-ne0.false
    (sym c.self.invariant.ignores ∙ c.if-self.false)))
