use Rattle.std.proofs.Common.{◌≡◌, ◌+◌, ◌-◌, ◌*◌, ◌/◌, ◌%◌, ◌++◌, ◌∙◌, ap, sym, take, drop, length, arith}
use Rattle.std.proofs.lemmas.List.{take_all}
use Rattle.std.specs.List.{filter}
use Rattle.data_encoding_meaning.specs.text.Grammar.{bytes_in, kept}
use Rattle.data_encoding_meaning.proofs.grammar.SameBytesLemmas.{bytes-kept_in}
use Rattle.data_encoding_kernel.proofs.packing.KeptLemmas.{keeps, kept-last, kept-extended}
use Rattle.data_encoding_kernel.proofs.ignore.pack.Goals as goal

pub loop-turn-preserved : goal.loop-turn-preserved
loop-turn-preserved c =
    let part = c.args.part.now in
    let turn = c.loop-turn.turn in
    let next = take 16 (take (16 * turn + 16 - 16 * turn) (drop (16 * turn) part)) in (
      omega (arith, c.loop-turn.invariant.0, c.pack_more-count.ensures.few),
      omega (
        arith,
        c.if-room-count-lt16.false,
        c.pack_more-count.ensures.few,
        c.pack_more-count.auto.room,
      ),
      λ base held.
          kept-extended base part turn _ (omega (arith, c.loop-turn-test.true))
          (c.pack_more-count.ensures.kept base held
          ∙ ap (λ l. l ++ filter (keeps base) next) (c.loop-turn.invariant.2 base held)),
    )

pub returns-then-room-count-lt16-clause-kept : goal.returns-then-room-count-lt16-clause-kept
returns-then-room-count-lt16-clause-kept c base held =
    bytes-kept_in base 0 (take (16 * c.loop-turn.turn) c.args.part.now)
    ∙ sym (c.loop-turn.invariant.2 base held)

pub returns-then-rest-eq0-clause-kept : goal.returns-then-rest-eq0-clause-kept
returns-then-rest-eq0-clause-kept c base held =
    let all : length c.args.part.now / 16 ≡ c.loop-turn.turn =
    omega (arith, c.loop-turn-test.false, c.loop-turn.auto.turn-end) in
    ap (λ n. bytes_in (kept base (take (16 * n) c.args.part.now))) all
    ∙ bytes-kept_in base 0 (take (16 * c.loop-turn.turn) c.args.part.now)
    ∙ sym (c.loop-turn.invariant.2 base held)

pub returns-clause-kept : goal.returns-clause-kept
returns-clause-kept c base held =
    let part = c.args.part.now in
    let rest = length part % 16 in
    ap (λ l. bytes_in (kept base l)) (take_all (length part) part (omega arith))
    ∙ kept-last base part _ _ _ (16 * c.loop-turn.turn) rest
    (omega (arith, c.loop-turn-test.false, c.loop-turn.auto.turn-end))
    (c.last_sixteen.ensures rest (omega arith) (omega arith))
    (c.loop-turn.invariant.2 base held) (c.pack_more.ensures.kept base held)

pub overflow_sub-room : goal.overflow_sub-room
overflow_sub-room c = c.loop-turn.invariant.1

pub returns-then-room-count-lt16-clause-room : goal.returns-then-room-count-lt16-clause-room
returns-then-room-count-lt16-clause-room c = c.loop-turn.invariant.1

pub overflow_sub-room-else-rest-eq0 : goal.overflow_sub-room-else-rest-eq0
overflow_sub-room-else-rest-eq0 c = c.loop-turn.invariant.1

pub returns-then-rest-eq0-clause-room : goal.returns-then-rest-eq0-clause-room
returns-then-rest-eq0-clause-room c = c.loop-turn.invariant.1
