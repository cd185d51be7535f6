use Rattle.std.proofs.Common.{◌≡◌, ◌<◌, false, length, take, sym, ◌∙◌, arith}
use Rattle.std.proofs.lemmas.List.{take_all}
use Rattle.data_encoding_meaning.specs.text.Base.{ignores_some}
use Rattle.data_encoding_meaning.specs.text.Grammar.{kept, positioned}
use Rattle.data_encoding_meaning.proofs.decoding.GatherLemmas.{more-here, none-here, position-here}
use Rattle.data_encoding_meaning.proofs.grammar.PositionLemmas.{filter-plain, length-kept, position_of-positioned_from}
use Rattle.data_encoding.proofs.tables.TableLemmas.{HoldsValues-seen, ascii-seen}
use Rattle.data_encoding.proofs.encoding.EncodingRef.kept_position.Goals as goal
use Rattle.data_encoding.proofs.encoding.EncodingRef.kept_position.Goals.{then-not-contains+else-left-eq0, else-not-contains}

pub returns-then-left-eq0-clause-found : goal.returns-then-left-eq0-clause-found
returns-then-left-eq0-clause-found c h =
    let seen = c.args.self.now in
    let part = c.args.part.now in
    let at = c.loop-position.position in
    let ignored = c.of-ignored.ensures seen
    (HoldsValues-seen _ c.self.invariant seen c.self.view_is)
    (ascii-seen _ c.self.invariant seen c.self.view_is) in
    let same : length (kept seen (take at part)) ≡ c.args.index =
    omega (arith, c.loop-position.invariant) in
    rw (← same) (sym (position-here seen part at c.loop-position-test.true
    (sym (c.contains.ensures seen ignored) ∙ c.if-not-contains.true)))

pub loop-position-preserved : goal.loop-position-preserved
loop-position-preserved c =
    let seen = c.args.self.now in
    let part = c.args.part.now in
    let at = c.loop-position.position in
    let ignored = c.of-ignored.ensures seen
    (HoldsValues-seen _ c.self.invariant seen c.self.view_is)
    (ascii-seen _ c.self.invariant seen c.self.view_is) in
    elim c.if-not-contains.branch [
      | then-not-contains+else-left-eq0 w ↦
          let more = more-here seen part at c.loop-position-test.true
          (sym (c.contains.ensures seen ignored) ∙ w.if-not-contains.true) in
          omega (arith, c.loop-position.invariant, w.left-is, w.if-left-eq0.false)
      | else-not-contains w ↦
          let none = none-here seen part at c.loop-position-test.true
          (sym (c.contains.ensures seen ignored) ∙ w.if-not-contains.false) in
          omega (arith, c.loop-position.invariant, w.left-is)
    ]

pub returns-clause-found : goal.returns-clause-found
returns-clause-found c h =
    let seen = c.args.self.now in
    let part = c.args.part.now in
    let all = take_all c.loop-position.position part (omega arith) in
    absurd (omega (arith, rw all at c.loop-position.invariant))

pub returns-then-not-self-clause-found : goal.returns-then-not-self-clause-found
returns-then-not-self-clause-found c h =
    let seen = c.args.self.now in
    let part = c.args.part.now in
    let none : ignores_some seen ≡ false =
    rw (← c.self.view_is) (sym c.self.invariant.ignores ∙ c.if-not-self.true) in
    let below : c.args.index < length part = omega (arith, length-kept seen part, h) in
    rw (filter-plain seen none (positioned part), position_of-positioned_from 0 part _ below)
    (omega arith)
