use Rattle.std.proofs.Common.{◌≡◌, ◌≤◌, false, ◌∙◌, length, sym, ap, arith}
use Rattle.std.proofs.lemmas.Bool.{false≢true}
use Rattle.std.proofs.lemmas.Bool.Decides.{nat_tests}
use Rattle.std.proofs.Math.Nat.{div-le_of_le-mul}
use Rattle.data_encoding_meaning.specs.text.Base.{group_symbols, is_padded}
use Rattle.data_encoding_meaning.proofs.digits.WidthLemmas.{group_symbols-few}
use Rattle.data_encoding_meaning.proofs.decoding.GroupJudgementLemmas.{group-short, length-invalid, padding-invalid, symbols-all, symbols-before}
use Rattle.data_encoding.proofs.decoding.JudgedGroupLemmas.{symbol-bits}
use Rattle.data_encoding.proofs.tables.TableLemmas.{IsWidth-seen}
use Rattle.data_encoding.proofs.encoding.EncodingRef.count_symbols.Goals as goal
use Rattle.data_encoding.proofs.encoding.EncodingRef.count_symbols.Goals.{Then-not-is_padded, then-count-eq0-via-then-count-eq0, then-count-eq0-via-else-count-eq0+then-width-count}

-- there is no padding
unpadded : (c : Then-not-is_padded) → is_padded c.args.self.now ≡ false
unpadded c = rw (← c.self.view_is) (sym c.is_padded.ensures ∙ c.if-not-is_padded.true)

pub overflow_mul-trailing : goal.overflow_mul-trailing
overflow_mul-trailing c =
    let join = c.requires.join in
    let all : length c.args.group.now ≤ length c.args.group.now = omega arith in
    let few = symbol-bits join.is_join join.width_is all c.requires.few in
    record { fits = omega (arith, few) }

pub returns-then-trailing-width-clause-fault : goal.returns-then-trailing-width-clause-fault
returns-then-trailing-width-clause-fault c =
    rw c.faulty.ensures
    (length-invalid c.args.self.now c.args.group.now (cc) c.requires.some c.args.join.now.width
    (sym c.requires.join.width_is) c.requires.join.is_join.some c.if-trailing-width.true)

pub returns-then-count-eq0-clause-fault : goal.returns-then-count-eq0-clause-fault
returns-then-count-eq0-clause-fault c =
    let seen = c.args.self.now in
    let width = c.requires.join.width_is in
    let symbols : c.group_symbols.result ≡ group_symbols seen.width =
    c.group_symbols.ensures ∙ ap group_symbols width in
    rw c.faulty-then-count-eq0.ensures
    (padding-invalid seen c.args.group.now (cc) (omega arith) c.before_padding-count.result
    (c.before_padding-count.ensures.count seen c.requires.values)
    (IsWidth-seen _ c.self.invariant seen c.self.view_is) c.requires.some
    c.before_padding-count.ensures.within
    (elim c.then-count-eq0.branch [
      | then-count-eq0-via-then-count-eq0 w ↦ grind (arith, nat_tests, w.if-count-eq0.true)
      | then-count-eq0-via-else-count-eq0+then-width-count w ↦ grind
          (arith, nat_tests, width, w.if-width-count.true)
    ]))

pub returns-clause-symbols : goal.returns-clause-symbols
returns-clause-symbols c =
    let seen = c.args.self.now in
    let width = c.requires.join.width_is in
    let symbols : c.group_symbols.result ≡ group_symbols seen.width =
    c.group_symbols.ensures ∙ ap group_symbols width in
    symbols-before seen c.args.group.now (cc) (omega arith) c.before_padding-count.result
    (c.before_padding-count.ensures.count seen c.requires.values)
    c.before_padding-count.ensures.within (grind (arith, nat_tests))
    (grind (arith, nat_tests, width))

pub before_padding-count-requires-clause-few : goal.before_padding-count-requires-clause-few
before_padding-count-requires-clause-few c =
    omega (
      arith,
      c.requires.few,
      group_symbols-few c.args.self.now.width
          (IsWidth-seen _ c.self.invariant c.args.self.now c.self.view_is),
    )

pub returns-then-not-is_padded-clause-symbols : goal.returns-then-not-is_padded-clause-symbols
returns-then-not-is_padded-clause-symbols c =
    symbols-all c.args.self.now c.args.group.now
    (unpadded (goal.at.returns-then-not-is_padded-clause-symbols c).Then-not-is_padded)
    (grind (arith, nat_tests, c.requires.join.width_is))

pub returns-then-not-is_padded-clause-whole : goal.returns-then-not-is_padded-clause-whole
returns-then-not-is_padded-clause-whole c =
    λ padded.
    let not = unpadded (goal.at.returns-then-not-is_padded-clause-whole c).Then-not-is_padded in
    absurd (false≢true (sym not ∙ padded))

pub returns-then-group-group_symbols-clause-fault
    : goal.returns-then-group-group_symbols-clause-fault
returns-then-group-group_symbols-clause-fault c =
    rw c.faulty-then-group-group_symbols.ensures
    (group-short c.args.self.now c.args.group.now (cc) c.requires.some (omega (
      arith,
      c.if-group-group_symbols.true,
      c.group_symbols.ensures,
      ap group_symbols c.requires.join.width_is,
    )))

pub returns-clause-whole : goal.returns-clause-whole
returns-clause-whole c =
    λ padded. omega (
      arith,
      c.if-group-group_symbols.false,
      c.requires.few,
      c.group_symbols.ensures,
      ap group_symbols c.requires.join.width_is,
    )

pub overflow_mul-width : goal.overflow_mul-width
overflow_mul-width c =
    let join = c.requires.join in
    let few = symbol-bits join.is_join join.width_is c.before_padding-count.ensures.within
    c.requires.few in
    record { fits = omega (arith, few) }

pub nonzero_div-trailing : goal.nonzero_div-trailing
nonzero_div-trailing c = c.requires.join.is_join.some

pub overflow_sub-group : goal.overflow_sub-group
overflow_sub-group c =
    div-le_of_le-mul c.args.join.now.width (omega arith)
