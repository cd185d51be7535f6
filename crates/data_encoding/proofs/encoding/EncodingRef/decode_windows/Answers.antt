use Rattle.std.proofs.Common.{◌≡◌, ◌+◌, ◌-◌, ◌*◌, ◌≤◌, length, take, drop, ap, arith}
use Rattle.std.proofs.lemmas.List.{take-take}
use Rattle.data_encoding_kernel.specs.Fronts.{IsFront}
use Rattle.data_encoding.proofs.decoding.ShortLemmas.{front-part, front-reached, front-room, joins-reads, joins-width, sixteen, stored}
use Rattle.data_encoding.proofs.encoding.EncodingRef.decode_windows.Given.{Over}
use Rattle.data_encoding.proofs.encoding.EncodingRef.decode_windows.Goals.{In-Some}
use Rattle.data_encoding.proofs.encoding.EncodingRef.decode_windows.Goals as goal

-- the window has sixteen symbols
front : (g : Over) (c : In-Some g)
    → IsFront c.args.self.now (drop c.loop-at.at.read c.args.input.now) 16 c.in-Some.decoded
front g c =
    let joins = c.requires.join in
    let finds = c.requires.finds in
    let rest = drop c.loop-at.at.read c.args.input.now in
    let front = c.decode_whole.ensures.front c.in-Some.decoded c.in-Some.is finds.values finds.held
    c.args.self.now (joins-reads joins finds.is_table) in
    let width : c.loop-at.at.read + 16 - c.loop-at.at.read ≡ 16 = omega arith in
    front-part c.args.self.now rest 16 front (rw width (take-take 16 16 rest (omega arith)))

pub store_front-requires-clause-room : goal.store_front-requires-clause-room
store_front-requires-clause-room g c =
    let joins = c.requires.join in
    let width = joins-width joins in
    let both = sixteen c.args.self.now.width width in
    omega (
      arith,
      ap (λ w. 2 * w) joins.width_is,
      both.1,
      front-room width c.loop-at.invariant
          (front g (goal.at.store_front-requires-clause-room g c).In-Some)
          (omega (arith, c.loop-at-test.true)),
    )

pub loop-at-preserved : goal.loop-at-preserved
loop-at-preserved g c =
    let joins = c.requires.join in
    let width = joins-width joins in
    let both = sixteen c.args.self.now.width width in
    let at = c.loop-at.at in
    let is = front g (goal.at.loop-at-preserved g c).In-Some in
    let enough : 16 ≤ length c.args.input.now - at.read = omega (arith, c.loop-at-test.true) in
    let room = take (length c.loop-at.output - at.written) (drop at.written c.loop-at.output) in
    rw joins.width_is (rw (both.0, both.1) at (front-reached width c.loop-at.invariant is enough
    c.store_front.new.output c.store_front.auto.output
    (rw both.1 (stored c.in-Some.decoded room c.store_front.new.output (2 * c.args.self.now.width)
    (rw (← joins.width_is) c.store_front.ensures)
    c.store_front.auto.output
    (rw both.1 at (front-room width c.loop-at.invariant is enough))))))
