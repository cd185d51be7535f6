use Rattle.std.proofs.Common.{◌≡◌, ◌-◌, ◌==◌, true, length, take, drop, refl, sym, ◌∙◌, arith, eqb-true}
use borrow.Rule.Slice.PartMut.{mid_of, put_same}
use Rattle.data_encoding.proofs.decoding.StepLemmas.{decoded-all, decoded-empty, group-stopped, some-group, under_way}
use Rattle.data_encoding.proofs.tables.TableLemmas.{HoldsValues-seen, ascii-seen}
use Rattle.data_encoding.proofs.encoding.EncodingRef.check_nothing_follows.Goals as goal

pub next_group-requires-clause-ignored : goal.next_group-requires-clause-ignored
next_group-requires-clause-ignored c =
    let base = c.args.self.now in
    c.of-ignored.ensures base (HoldsValues-seen _ c.self.invariant base c.self.view_is)
    (ascii-seen _ c.self.invariant base c.self.view_is)

pub returns-then-is_empty : goal.returns-then-is_empty
returns-then-is_empty c = λ output exact so_far.
    let now = under_way c.requires.width exact so_far in
    let rest = take (length c.args.input.now - c.args.stop.now.read)
    (drop c.args.stop.now.read c.args.input.now) in
    let none : (length rest == 0) ≡ true = sym c.is_empty.ensures ∙ c.if-is_empty.true in
    decoded-all now (omega (arith, eqb-true (length rest) 0 none, c.requires.within))

pub returns-then-is_empty-2 : goal.returns-then-is_empty-2
returns-then-is_empty-2 c = λ output exact so_far.
    let now = under_way c.requires.width exact so_far in
    decoded-empty now (rw c.requires.symbols at c.next_group.ensures) c.is_empty-2.ensures
    c.if-is_empty-2.true

pub returns : goal.returns
returns c = λ output exact so_far.
    let now = under_way c.requires.width exact so_far in
    let written = c.args.stop.now.written in
    let rest = mid_of written (length output - written) output in
    let some = some-group (rw c.requires.symbols at c.next_group.ensures) c.is_empty-2.ensures
    c.if-is_empty-2.false in
    rw (put_same written (length output - written) output) at
    (group-stopped now (rw c.requires.symbols at c.next_group.ensures)
    (record { inside = some; is_fault = λ placed same. refl }) rest refl)
