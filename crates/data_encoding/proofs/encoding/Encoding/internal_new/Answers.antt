use Rattle.std.proofs.Common.{◌≡◌, Some, sym, ap, ◌∙◌, arith}
use Rattle.std.proofs.lemmas.Option.{none-some}
use Rattle.std.proofs.lemmas.Slice.Eq.{bytes_eq-Decides}
use Rattle.data_encoding_meaning.specs.specification.Layout.{layout}
use Rattle.data_encoding_meaning.proofs.tables.ReadingLemmas.{read-layout}
use Rattle.data_encoding.proofs.encoding.Encoding.internal_new.Goals as goal
use Rattle.data_encoding.proofs.encoding.Encoding.internal_new.Goals.{then-implementation-lt514-via-then-implementation-lt514, then-implementation-lt514-via-else-implementation-lt514+then-implementation-gt770}

pub returns-then-implementation-lt514-clause-accepted :
    goal.returns-then-implementation-lt514-clause-accepted
returns-then-implementation-lt514-clause-accepted c = λ base is same.
    let read = read-layout base c.args.implementation.now is same in
    elim c.then-implementation-lt514.branch [
      | then-implementation-lt514-via-then-implementation-lt514 w ↦
          absurd (omega (arith, read.some, w.if-implementation-lt514.true))
      | then-implementation-lt514-via-else-implementation-lt514+then-implementation-gt770 w ↦
          absurd (omega (arith, read.few, w.if-implementation-gt770.true))
    ]

pub returns-else-eq-clause-accepted : goal.returns-else-eq-clause-accepted
returns-else-eq-clause-accepted c = λ base is same.
    let slice = c.as_slice.result.now in
    let implementation = c.args.implementation.now in
    let some : Some c.in_ok-encoding.encoding ≡ Some base =
    c.in_ok-encoding.ensures.found base is same in
    let encoding : c.in_ok-encoding.encoding ≡ base = cc in
    let bytes : slice ≡ implementation =
    c.as_slice.ensures.value ∙ c.internal_implementation.ensures ∙ ap layout encoding ∙ same in
    sym c.if-eq.false ∙ c.eq.ensures ∙ (bytes_eq-Decides slice implementation).1 bytes

pub returns-in_err-encoding-clause-accepted : goal.returns-in_err-encoding-clause-accepted
returns-in_err-encoding-clause-accepted c = λ base is same.
    absurd (none-some base (sym c.in_err-encoding.was ∙ c.parse_layout.ensures.found base is same))

pub returns-then-eq-clause-layout : goal.returns-then-eq-clause-layout
returns-then-eq-clause-layout c =
    sym (c.as_slice.ensures.value ∙ c.internal_implementation.ensures)
    ∙ (bytes_eq-Decides c.as_slice.result.now c.args.implementation.now).0
    (sym c.eq.ensures ∙ c.if-eq.true)
