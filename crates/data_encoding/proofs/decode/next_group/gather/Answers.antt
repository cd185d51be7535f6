use Rattle.std.proofs.Common.{ℕ, ◌+◌, ◌-◌, ◌<◌, ◌≤◌, ◌≡◌, length, drop, ◌∙◌, sym, ap, arith, inl, inr, subst, take, length-drop, slice_index}
use Rattle.std.proofs.lemmas.List.{take_rest, get_or-drop}
use Rattle.data_encoding_meaning.specs.decoding.Decoding.{IsGathered}
use Rattle.data_encoding_meaning.specs.text.Base.{Base, is_ignored, meaning}
use Rattle.data_encoding_kernel.specs.Ignore.{HoldsIgnored}
use Rattle.data_encoding_meaning.proofs.decoding.GatherLemmas.{HasGathered, gather-kept, gathered, nothing-gathered}
use Rattle.data_encoding.proofs.decoding.PlacingLemmas.{gather-front}
use Rattle.data_encoding.proofs.decode.next_group.gather.Goals as goal
use Rattle.data_encoding.proofs.decode.next_group.gather.Goals.{After-front}

pub loop-count-init : goal.loop-count-init
loop-count-init c =
    (omega arith, λ base holds. nothing-gathered base c.args.rest.now c.args.room.now)

-- the position of the next byte that is not ignored
abbrev at : After-front → ℕ
at c = c.loop-count.span + c.front.result

at-within : (c : After-front) → at c ≤ length c.args.rest.now
at-within c = omega (arith, c.front.ensures.within, c.loop-count.invariant.0, length-drop {A = ℕ})

-- what was gathered, with the ignored bytes that follow
front : (c : After-front) (base : Base) → HoldsIgnored base c.args.ignored.now
    → HasGathered base c.args.rest.now (at c) c.loop-count.count c.loop-count.span
    c.loop-count.room
front c base holds =
    gather-front c.front.result
    (c.loop-count.invariant.1 base holds) c.loop-count.invariant.0
    (rw (take_rest c.args.rest.now c.loop-count.span) at (c.front.ensures.front base holds))

-- the byte there
next-byte : (c : After-front) → slice_index c.args.rest.now (at c)
    ≡ slice_index (take (length c.args.rest.now - c.loop-count.span)
    (drop c.loop-count.span c.args.rest.now)) c.front.result
next-byte c =
    let rest = c.args.rest.now in
    let span = c.loop-count.span in
    sym (get_or-drop span rest c.front.result 0)
    ∙ ap (λ l. slice_index l c.front.result) (sym (take_rest rest span))

pub returns-then-at-rest-clause-first : goal.returns-then-at-rest-clause-first
returns-then-at-rest-clause-first c base holds =
    let before = (goal.at.returns-then-at-rest-clause-first c).After-front in
    gathered (front before base holds) (omega (arith, c.if-at-rest.true))
    (omega (arith, c.loop-count-test.true))
    (inr (omega (arith, c.if-at-rest.true)))

pub loop-count-preserved : goal.loop-count-preserved
loop-count-preserved c =
    let before = (goal.at.loop-count-preserved c).After-front in
    let next : at before < length c.args.rest.now =
    omega (arith, at-within before, c.if-at-rest.false) in (
      omega (arith, next),
      λ base holds. gather-kept base c.args.rest.now (at before) next c.loop-count.count
          c.loop-count.span c.loop-count.room (front before base holds)
          (ap (λ byte. is_ignored (meaning base byte)) (next-byte before)
          ∙ before.front.ensures.next base holds (omega (arith, next, length-drop {A = ℕ})))
          (omega (arith, c.requires.few, c.loop-count-test.true)),
    )

pub returns-clause-first : goal.returns-clause-first
returns-clause-first c base holds =
    let same : c.loop-count.count ≡ c.args.symbols =
    omega (arith, c.loop-count-test.false, c.loop-count.auto.count-end) in
    subst (λ n. IsGathered base c.args.symbols c.args.rest.now (take n c.loop-count.room)
    c.loop-count.span) same
    (gathered (c.loop-count.invariant.1 base holds) c.loop-count.invariant.0
    (omega (arith, same)) (inl same))
