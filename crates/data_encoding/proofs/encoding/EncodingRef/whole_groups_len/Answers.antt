use Rattle.std.proofs.Common.{length, arith}
use Rattle.std.proofs.lemmas.List.{take_all}
use Rattle.data_encoding_meaning.proofs.digits.WidthLemmas.{group_symbols-pos}
use Rattle.data_encoding.proofs.tables.TableLemmas.{HoldsValues-seen, IsWidth-seen, ascii-seen}
use Rattle.data_encoding.proofs.encoding.EncodingRef.whole_groups_len.Goals as goal

pub returns-then-last-eq0-clause-whole : goal.returns-then-last-eq0-clause-whole
returns-then-last-eq0-clause-whole c =
    let seen = c.args.self.now in
    let text = c.args.text.now in
    let ignored = c.of-ignored.ensures seen
    (HoldsValues-seen _ c.self.invariant seen c.self.view_is)
    (ascii-seen _ c.self.invariant seen c.self.view_is) in
    let size = c.group_len.ensures.value in
    let count = c.count_kept.ensures seen ignored in
    rw (take_all (length text) text (omega arith))
    (omega (arith, rw (size, count) at c.if-last-eq0.true))

pub returns-clause-whole : goal.returns-clause-whole
returns-clause-whole c =
    let seen = c.args.self.now in
    let text = c.args.text.now in
    let ignored = c.of-ignored.ensures seen
    (HoldsValues-seen _ c.self.invariant seen c.self.view_is)
    (ascii-seen _ c.self.invariant seen c.self.view_is) in
    let size = c.group_len.ensures.value in
    let count = c.count_kept.ensures seen ignored in
    let before = c.span_before.ensures.ends seen ignored (omega (arith, count)) in
    omega (arith, rw (size, count) at before.before)

pub nonzero_rem-last : goal.nonzero_rem-last
nonzero_rem-last c =
    omega (
      arith,
      c.group_len.ensures.value,
      group_symbols-pos c.args.self.now.width
          (IsWidth-seen _ c.self.invariant c.args.self.now c.self.view_is),
    )
